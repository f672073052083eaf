use Rattle.oftp_register.specs.Lists.{register_in}
use Rattle.oftp_register.proofs.FitLemmas.{close_asks, keep_asks, start_asks, tests_fit}
use Rattle.oftp_register.proofs.plain.lists.Lists.allows.Goals as goal

pub returns-then-allows_longest : goal.returns-then-allows_longest
returns-then-allows_longest c =
    let start = c.in-Start in
    tests_fit (register_in c.args.self.now) c.args.change.now _ _ c.can_start.result start.is
    (start_asks c.args.self.now _ start.identity start.format start.longest start.description start.count c.deref.ensures.value)
    (λ yes. (c.allows_longest.ensures.0 c.if-allows_longest.true, c.can_start.ensures.0 yes), λ asked. c.can_start.ensures.1 asked.1)

pub returns-in-Keep : goal.returns-in-Keep
returns-in-Keep c =
    let r = register_in c.args.self.now in
    tests_fit r c.args.change.now _ _ c.may_keep.result c.in-Keep.is (keep_asks r c.in-Keep.no c.in-Keep.rows) c.may_keep.ensures

pub returns-in-Close : goal.returns-in-Close
returns-in-Close c =
    let r = register_in c.args.self.now in
    tests_fit r c.args.change.now _ _ c.may_close.result c.in-Close.is (close_asks r c.in-Close.no c.in-Close.rows) c.may_close.ensures
