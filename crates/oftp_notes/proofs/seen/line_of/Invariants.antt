use Rattle.std.proofs.Common.{◌≡◌, [], ◌++◌, encode_utf8_all, fold, string_bytes}
use Rattle.oftp_notes.specs.Seen.{with_seen}
use Rattle.oftp_notes.proofs.seen.line_of.Given as goal

abbrev pub invariant-loop-c : goal.invariant-loop-c
invariant-loop-c l = record {
  read : encode_utf8_all l.yielded ++ l.c-iterator.rest.now ≡ l.fn.text;
  written : string_bytes l.line ≡ fold with_seen [] l.yielded;
}
