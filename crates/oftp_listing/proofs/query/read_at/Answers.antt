use Rattle.std.proofs.Common.{rules}
use Rattle.oftp_listing.proofs.HeadLemmas.{fields_overflow, head_begun, head_found, head_refused}
use Rattle.oftp_listing.proofs.SiteLemmas.{goal_found, no_goal}
use Rattle.oftp_listing.proofs.query.read_at.Goals as goal

pub returns-in-Ok-Complete : goal.returns-in-Ok-Complete
returns-in-Ok-Complete c =
    let parsed = c.in-Ok-Complete.ensures in
    let finds = rw c.in-Ok-Complete.field-0-is at parsed.found in
    let is = rw c.in-Ok-Complete.field-0-is at parsed.complete in
    record {
      head = head_found c.args.request.now c.parse_request.new.headers c.in-Ok-Complete.spans _ _ _ (search rules) finds is c.of-method.ensures c.of-target.ensures c.whole_head.ensures;
      goal = goal_found c.args.site c.args.address c.args.request.now c.parse_request.new.headers c.in-Ok-Complete.spans _ _ _ (search rules) finds is c.of-method.ensures
          c.of-target.ensures c.goal_at-goal.ensures;
    }

pub returns-in-Ok-Partial : goal.returns-in-Ok-Partial
returns-in-Ok-Partial c =
    let parsed = c.in-Ok-Partial.ensures in
    let none = rw c.in-Ok-Partial.field-0-is at parsed.partial in
    let may = rw c.in-Ok-Partial.field-0-is at parsed.unfinished in
    record {
      head = head_begun c.args.request.now _ none may c.begun_head.ensures;
      goal = no_goal c.args.site c.args.address c.args.request.now (λ h rest reads. absurd (none h rest reads));
    }

pub returns-in-Err : goal.returns-in-Err
returns-in-Err c =
    let over = c.in-Err.ensures.no_room in
    record {
      head = head_refused c.args.request.now over;
      goal = no_goal c.args.site c.args.address c.args.request.now (fields_overflow c.args.request.now over);
    }
