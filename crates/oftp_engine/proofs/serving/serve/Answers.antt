use Rattle.std.proofs.Common.{rules, [], ◌++◌, ◌≢◌, take, Err, refl, sym, ap, ◌∙◌, subst, arith}
use Rattle.oftp_session.specs.Calls.{Seen}
use Rattle.oftp_session.specs.Standings.{Broken}
use Rattle.oftp_engine.specs.Served.{setting_of, Serves}
use Rattle.oftp_engine.specs.Serving.{scene}
use Rattle.oftp_engine.specs.declared.serving.RunFault.{RunFault}
use Rattle.oftp_io.proofs.Bytes.{consumes_none}
use Rattle.oftp_io.proofs.Puts.{puts_none, puts_on}
use Rattle.oftp_engine.proofs.Conversations.{heard_none}
use Rattle.oftp_engine.proofs.Listening.{cut_short, gone_on, listens, out_of_room, read_on, served_end, served_fault, served_input}
use Rattle.oftp_engine.proofs.Reading.{gave_kept, gave_on, gave_zero}
use Rattle.oftp_engine.proofs.Telling.{handed_on}
use Rattle.oftp_engine.proofs.serving.serve.Goals as goal

pub pieces-init : goal.pieces-init
pieces-init g c =
    let setting = setting_of c.args.book.now c.args.role in
    let first = scene g.W.Write.contents (g.O.Office.view c.args.office.now) c.args.writer.now in
    record {
      out = puts_none g.W.Write.contents c.args.writer.now;
      faults = refl;
      unbroken = c.new-conversation.ensures.unbroken;
      clean = λ h. h;
      goes = record {
        given = [];
        gave = record { bytes = consumes_none (g.R.Read.remaining c.args.reader.now.inner) []; count = omega arith; within = omega arith; most = refl };
        faults = refl;
        on = refl;
        heard = λ clean stood.
            heard_none setting c.new-conversation.result first c.new-conversation.ensures.fresh (g.met.O.Office.sound c.args.office.now clean stood) stood;
        needed = λ clean stood. record { before = []; last = []; all = refl; piece = omega arith; some = λ more. more; live = λ some. absurd (omega (arith, some)) };
      };
    }

pub returns-in_err-ending-clause-serves : goal.returns-in_err-ending-clause-serves
returns-in_err-ending-clause-serves g c =
    let first = scene g.W.Write.contents (g.O.Office.view c.args.office.now) c.args.writer.now in
    let new = scene g.W.Write.contents (g.O.Office.view c.go_on.new.office) c.go_on.new.writer in
    let h = c.pieces.invariant.goes in
    let gone = gone_on g.O.Office.view g.W.Write.contents c.args.office.now c.pieces.office c.go_on.new.office
    c.args.writer.now c.pieces.writer c.go_on.new.writer {after = c.go_on.new.self} c.pieces.invariant.goes c.go_on.ensures.clean c.in_err-ending.ensures.goes in (
      h.given,
      h.gave,
      λ clean stood. subst (Serves (setting_of c.args.book.now c.args.role) h.given first new) (sym (handed_on _ _ c.from_residual.ensures.1)) (served_fault (gone clean stood)),
    )

pub returns-in-Some-clause-serves : goal.returns-in-Some-clause-serves
returns-in-Some-clause-serves g c =
    let h = c.pieces.invariant.goes in
    let gone = gone_on g.O.Office.view g.W.Write.contents c.args.office.now c.pieces.office c.go_on.new.office
    c.args.writer.now c.pieces.writer c.go_on.new.writer {after = c.go_on.new.self} c.pieces.invariant.goes c.go_on.ensures.clean c.in_ok-ending.ensures.goes in
    (h.given, h.gave, λ clean stood. served_end (gone clean stood) c.in-Some.is c.from.ensures)

pub returns-in-None-clause-serves : goal.returns-in-None-clause-serves
returns-in-None-clause-serves g c =
    let h = c.pieces.invariant.goes in
    let gone = gone_on g.O.Office.view g.W.Write.contents c.args.office.now c.pieces.office c.go_on.new.office
    c.args.writer.now c.pieces.writer c.go_on.new.writer {after = c.go_on.new.self} c.pieces.invariant.goes c.go_on.ensures.clean c.in_ok-ending.ensures.goes in (
      h.given,
      gave_kept g.R.Read.remaining c.args.reader.now c.pieces.reader c.read.new.self h.given h.gave c.in-None.ensures,
      λ clean stood. cut_short (gone clean stood) c.in_default.is,
    )

pub returns-in-Some-eq0-clause-serves : goal.returns-in-Some-eq0-clause-serves
returns-in-Some-eq0-clause-serves g c =
    let h = c.pieces.invariant.goes in
    let gone = gone_on g.O.Office.view g.W.Write.contents c.args.office.now c.pieces.office c.go_on.new.office
    c.args.writer.now c.pieces.writer c.go_on.new.writer {after = c.go_on.new.self} c.pieces.invariant.goes c.go_on.ensures.clean c.in_ok-ending.ensures.goes in (
      h.given,
      gave_zero g.R.Read.remaining c.args.reader.now c.pieces.reader c.read.new.self h.given c.read.new.piece c.in-Some-eq0.field-0 h.gave c.in-Some-eq0.ensures (search rules),
      λ clean stood. served_input (gone clean stood) c.in_default.is,
    )

pub returns-in_err-hear-in-Some-read-clause-serves : goal.returns-in_err-hear-in-Some-read-clause-serves
returns-in_err-hear-in-Some-read-clause-serves g c =
    let h = c.pieces.invariant.goes in
    let gone = gone_on g.O.Office.view g.W.Write.contents c.args.office.now c.pieces.office c.go_on.new.office
    c.args.writer.now c.pieces.writer c.go_on.new.writer {after = c.go_on.new.self} c.pieces.invariant.goes c.go_on.ensures.clean c.in_ok-ending.ensures.goes in
    let memory = ap (λ (x : RunFault). Err x) c.in_err-hear-in-Some-read.ensures.memory in (
      h.given ++ take c.in-Some-read.n c.read.new.piece,
      gave_on g.R.Read.remaining c.args.reader.now c.pieces.reader c.read.new.self h.given c.read.new.piece c.in-Some-read.n h.gave c.in-Some-read.ensures,
      λ clean stood.
          out_of_room (gone clean stood) c.in_default.is (take c.in-Some-read.n c.read.new.piece) (search rules)
          (handed_on _ _ c.from_residual-in_err-hear-in-Some-read.ensures.1 ∙ memory),
    )

pub pieces-preserved : goal.pieces-preserved
pieces-preserved g c =
    let setting = setting_of c.args.book.now c.args.role in
    let first = scene g.W.Write.contents (g.O.Office.view c.args.office.now) c.args.writer.now in
    let new = scene g.W.Write.contents (g.O.Office.view c.go_on.new.office) c.go_on.new.writer in
    let h = c.pieces.invariant.goes in
    let gone = gone_on g.O.Office.view g.W.Write.contents c.args.office.now c.pieces.office c.go_on.new.office
    c.args.writer.now c.pieces.writer c.go_on.new.writer {after = c.go_on.new.self} c.pieces.invariant.goes c.go_on.ensures.clean c.in_ok-ending.ensures.goes in
    record {
      out = puts_on _ _ _ _ c.pieces.invariant.out c.go_on.ensures.out;
      faults = c.in_ok-ending.ensures.told ∙ c.pieces.invariant.faults;
      unbroken = subst (λ (s : Seen). s.standing ≢ Broken) (sym c.in_ok-hear-in-Some-read.ensures.heard.seen) c.in_ok-ending.ensures.unbroken;
      clean = λ h. c.pieces.invariant.clean (c.go_on.ensures.clean h);
      goes = read_on g.R.Read.remaining c.args.reader.now c.pieces.reader c.read.new.self h.given c.read.new.piece c.in-Some-read.n
          ((g.O.Office.view c.go_on.new.office).clean) ((g.O.Office.view c.args.office.now).stands) setting c.go_on.new.self c.hear.new.self first new
          h.gave h.faults h.on c.in-Some-read.ensures (search rules)
          (λ clean stood. listens (gone clean stood) c.in_default.is)
          c.in_ok-hear-in-Some-read.ensures.heard (search rules);
    }

pub returns-in_err-ending-clause-out : goal.returns-in_err-ending-clause-out
returns-in_err-ending-clause-out g c = puts_on _ _ _ _ c.pieces.invariant.out c.go_on.ensures.out

pub returns-in-Some-clause-out : goal.returns-in-Some-clause-out
returns-in-Some-clause-out g c = puts_on _ _ _ _ c.pieces.invariant.out c.go_on.ensures.out

pub returns-in-None-clause-out : goal.returns-in-None-clause-out
returns-in-None-clause-out g c = puts_on _ _ _ _ c.pieces.invariant.out c.go_on.ensures.out

pub returns-in-Some-eq0-clause-out : goal.returns-in-Some-eq0-clause-out
returns-in-Some-eq0-clause-out g c = puts_on _ _ _ _ c.pieces.invariant.out c.go_on.ensures.out

pub returns-in_err-hear-in-Some-read-clause-out : goal.returns-in_err-hear-in-Some-read-clause-out
returns-in_err-hear-in-Some-read-clause-out g c = puts_on _ _ _ _ c.pieces.invariant.out c.go_on.ensures.out
