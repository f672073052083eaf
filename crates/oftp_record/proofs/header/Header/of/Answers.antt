use Rattle.std.proofs.Common.{rules, ◌≡◌, ℕ, ◌∙◌, ap, sym, take, codes}
use Rattle.std.specs.Int.{w32, to_be_bytes}
use Rattle.std.proofs.lemmas.List.{take_rest}
use Rattle.oftp_record.specs.declared.header.TheConstants.{KIND_AT, LACK_AT}
use Rattle.oftp_record.proofs.HeaderLemmas.{header_from}
use Rattle.oftp_record.proofs.header.Header.of.Goals as goal

pub returns-clause-header : goal.returns-clause-header
returns-clause-header c =
    let o = c.args.octets.now in
    let word : take KIND_AT o ≡ codes "OREC2" = search rules in
    let lack = ap (λ (n : ℕ). to_be_bytes w32 n) (sym c.if-lack-count.false) ∙ c.short_of-lack.ensures ∙ take_rest o LACK_AT in
    header_from o c.in_ok-kind.kind c.long_of-moment.result c.short_of-count.result c.requires word c.in_ok-kind.ensures.one c.long_of-moment.ensures.octets
    c.short_of-count.ensures lack
