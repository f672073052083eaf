-- Octets that begin with a header, and what is told of them; octets that are written.
use Rattle.std.proofs.Common.{◌≡◌, ℕ, ◌+◌, ◌-◌, ◌^◌, ◌<◌, ◌≤◌, List, ◌++◌, length, take, drop, sym, ap, ◌∙◌, append_assoc, arith, length-append, length-drop}
use Rattle.std.proofs.Math.Seq.{take-append-add}
use Rattle.std.proofs.lemmas.List.{drop-drop, drop_at, length-take-le, take-append-drop, take_rest}
use Rattle.oftp_record.specs.Entries.{IsEntry, Noted, chained, entry_body, entry_digest, entry_header}
use Rattle.oftp_record.specs.Next.{BeginsEntry, BreaksBehind, HasOtherDigest}
use Rattle.oftp_record.specs.declared.chain.TheConstants.{DIGEST_LEN}
use Rattle.oftp_record.specs.declared.header.TheConstants.{HEADER_LEN, LONGEST_CONTENT}
use Rattle.oftp_record.specs.declared.kind.RecordKind.{RecordKind}

module _ (before o : List ℕ) (k : RecordKind) (m n : ℕ) (headed : o ≡ entry_header k m n ++ drop HEADER_LEN o) (few : n ≤ LONGEST_CONTENT) where
  size : length o ≡ HEADER_LEN + length (drop HEADER_LEN o)
  size = ap (λ (z : List ℕ). length z) headed ∙ length-append (entry_header k m n) (drop HEADER_LEN o)

  -- fewer octets than its content and a digest have
  pub broken : length o < HEADER_LEN + n + DIGEST_LEN → BreaksBehind o (HEADER_LEN + n + DIGEST_LEN - length o)
  broken short = record {
    kind = k;
    moment = m;
    count = n;
    part = drop HEADER_LEN o;
    headed = headed;
    within = few;
    some = omega (arith, short);
    lacks = omega (arith, size, short);
  }

  module _ (early : m < 2 ^ 64) (enough : HEADER_LEN + n + DIGEST_LEN ≤ length o) where
    abbrev body : List ℕ
    body = take (HEADER_LEN + n) o

    abbrev entry : Noted
    entry = record { kind = k; moment = m; content = take (HEADER_LEN + n - HEADER_LEN) (drop HEADER_LEN o) }

    abbrev stored : List ℕ
    stored = take (HEADER_LEN + n + DIGEST_LEN - (HEADER_LEN + n)) (drop (HEADER_LEN + n) o)

    abbrev rest : List ℕ
    rest = drop (HEADER_LEN + n + DIGEST_LEN) o

    count : HEADER_LEN + n - HEADER_LEN ≡ n
    count = omega arith

    long : length entry.content ≡ n
    long = length-take-le (HEADER_LEN + n - HEADER_LEN) (drop HEADER_LEN o) (omega (arith, size, enough)) ∙ count

    sound : IsEntry entry
    sound = record { moment = early; content = omega (arith, long, few) }

    body_is : body ≡ entry_body entry
    body_is = ap (λ (z : List ℕ). take (HEADER_LEN + n) z) headed ∙ take-append-add (entry_header k m n) (drop HEADER_LEN o) n
        ∙ ap (λ (c : ℕ). entry_header k m n ++ take c (drop HEADER_LEN o)) (sym count) ∙ ap (λ (c : ℕ). entry_header k m c ++ entry.content) (sym long)

    stored_size : length stored ≡ DIGEST_LEN
    stored_size = length-take-le (HEADER_LEN + n + DIGEST_LEN - (HEADER_LEN + n)) (drop (HEADER_LEN + n) o)
        (omega (arith, enough, length-drop (HEADER_LEN + n) o)) ∙ omega arith

    rest_is : drop (HEADER_LEN + n + DIGEST_LEN - (HEADER_LEN + n)) (drop (HEADER_LEN + n) o) ≡ rest
    rest_is = drop-drop (HEADER_LEN + n + DIGEST_LEN - (HEADER_LEN + n)) (HEADER_LEN + n) o
        ∙ ap (λ (c : ℕ). drop c o) {x = HEADER_LEN + n + (HEADER_LEN + n + DIGEST_LEN - (HEADER_LEN + n))} {y = HEADER_LEN + n + DIGEST_LEN} (omega arith)

    parts : o ≡ entry_body entry ++ (stored ++ rest)
    parts = sym (take-append-drop (HEADER_LEN + n) o) ∙ ap (λ (z : List ℕ). z ++ drop (HEADER_LEN + n) o) body_is
        ∙ ap (λ (z : List ℕ). entry_body entry ++ z) (sym (take-append-drop (HEADER_LEN + n + DIGEST_LEN - (HEADER_LEN + n)) (drop (HEADER_LEN + n) o))
        ∙ ap (λ (z : List ℕ). stored ++ z) rest_is)

    module _ (digest : List ℕ) (is : digest ≡ chained body before) where
      digest_is : digest ≡ entry_digest entry before
      digest_is = is ∙ ap (λ (z : List ℕ). chained z before) body_is

      -- another digest than that of the entry stands there
      pub otherwise : (stored ≡ digest → ⊥) → HasOtherDigest before o
      otherwise differs = record {
        entry = entry;
        stored = stored;
        rest = rest;
        sound = sound;
        parts = parts;
        size = stored_size;
        other = λ same. differs (same ∙ sym digest_is);
      }

      -- that digest stands there
      pub begins : stored ≡ digest → BeginsEntry before o entry (HEADER_LEN + n + DIGEST_LEN) digest
      begins same = record {
        sound = sound;
        stored = parts ∙ ap (λ (z : List ℕ). entry_body entry ++ (z ++ rest)) (same ∙ digest_is)
            ∙ sym (append_assoc (entry_body entry) (entry_digest entry before) rest);
        count_is = omega (arith, long);
        digest_is = digest_is;
      }

-- a header and a content behind octets, which are digested together with the digest before
module _ (items header content digest before : List ℕ) (begin : ℕ) where
  abbrev written : List ℕ
  written = (items ++ header) ++ content

  pub sealed : begin + (length header + length content) ≡ length written → digest ≡ chained (take (length written - begin) (drop begin written)) before
      → digest ≡ chained (header ++ content) before
  sealed long is =
      let whole : written ≡ items ++ (header ++ content) = append_assoc items header content in
      let first : length items ≡ begin = omega (arith, long, length-append (items ++ header) content, length-append items header) in
      is ∙ ap (λ (z : List ℕ). chained z before) (take_rest written begin ∙ ap (λ (z : List ℕ). drop begin z) whole ∙ drop_at items (header ++ content) begin first)

  pub added : written ++ digest ≡ items ++ ((header ++ content) ++ digest)
  added = ap (λ (z : List ℕ). z ++ digest) (append_assoc items header content) ∙ append_assoc items (header ++ content) digest
