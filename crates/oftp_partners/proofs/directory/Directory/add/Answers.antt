use Rattle.std.proofs.Common.{◌≡◌, ◌++◌, ◌∷◌, [], arith}
use Rattle.std.proofs.lemmas.Grind.{common_steps}
use Rattle.oftp_partners.proofs.DirectoryLemmas.{IsIndex-push}
use Rattle.oftp_partners.proofs.directory.Directory.add.Goals as goal

pub invariant_of-self-2 : goal.invariant_of-self-2
invariant_of-self-2 c =
    let ps = c.self.inside.partners.items in
    let pushed : c.push.new.self.items ≡ ps ++ c.args.partner ∷ [] = grind (arith, common_steps) in
    rw pushed (IsIndex-push c.self.inside.places c.insert.new.self c.in_ok-code.code ps c.args.partner c.len.result c.self.invariant (rw c.self.view_is c.requires)
    (grind (arith, common_steps)) (grind (arith, common_steps)) c.in_ok-insert.ensures.updates)
