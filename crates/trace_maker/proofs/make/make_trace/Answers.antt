use Rattle.std.proofs.Common.{◌≡◌, ℕ, ◌+◌, List, length, get_or, sym, ap, ◌∙◌, subst, arith}
use Rattle.std.specs.List.{All}
use Rattle.std.proofs.lemmas.Grind.{common_steps}
use Rattle.std.proofs.lemmas.List.{take_more}
use Rattle.verdict.specs.declared.machine.Event.{Event}
use Rattle.recon_disk.specs.Outside.{MayBeAppended}
use Rattle.trace_reader.specs.Trace.{IsSpelled, spelling_of_all}
use Rattle.trace_maker.specs.declared.operation.Operation.{Operation}
use Rattle.trace_maker.specs.declared.operation.Operation.TheVariants.{Subvolume}
use Rattle.trace_maker.specs.Plan.{plan_of}
use Rattle.trace_maker.specs.Made.{Gained, IsFront, IsMade, IsCommitOf, carried_out}
use Rattle.trace_maker.proofs.Commits.{spelled_commit}
use Rattle.trace_maker.proofs.Sinking.{and_then}
use Rattle.trace_maker.proofs.Making.{more, failed, stopped, cut, nothing, header_cut, ended, any_err, ok_then, err_then}
use Rattle.trace_maker.proofs.make.make_trace.Goals as goal

pub returns-in_default-clause-front : goal.returns-in_default-clause-front
returns-in_default-clause-front g c = nothing (g.K.Sink.kept c.args.out.now)

pub returns-in_default-new-clause-front : goal.returns-in_default-new-clause-front
returns-in_default-new-clause-front g c = nothing (g.K.Sink.kept c.args.out.now)

pub returns-in_err-put-clause-front : goal.returns-in_err-put-clause-front
returns-in_err-put-clause-front g c =
    let kept = g.K.Sink.kept in
    any_err (Gained IsFront (kept c.args.out.now) (kept c.put.new.out)) c.from_residual.result
    (header_cut (kept c.args.out.now) (kept c.put.new.out) c.in_err-put.ensures.partly)

pub returns-in_default-commit-clause-front : goal.returns-in_default-commit-clause-front
returns-in_default-commit-clause-front g c =
    let kept = g.K.Sink.kept in
    stopped c.deref-op-items.result.now c.loop-op.op-index c.loop-op.room c.loop-op.maker.volume (kept c.args.out.now) (kept c.loop-op.out) c.loop-op.invariant.gained

pub returns-then-records-room-clause-front : goal.returns-then-records-room-clause-front
returns-then-records-room-clause-front g c =
    let kept = g.K.Sink.kept in
    stopped c.deref-op-items.result.now c.loop-op.op-index c.loop-op.room c.loop-op.maker.volume (kept c.args.out.now) (kept c.loop-op.out) c.loop-op.invariant.gained

pub put_all-requires : goal.put_all-requires
put_all-requires g c =
    let ops = c.deref-op-items.result.now in
    let op = get_or ops c.loop-op.op-index (Subvolume 0) in
    let P : List Event → Type 0 = λ l. All IsSpelled l in
    subst P (sym c.deref.ensures.value) (spelled_commit (c.loop-op.k + 1) c.loop-op.maker.volume op c.in-Ok-commit.events.items c.in-Ok-commit.ensures.made)

pub returns-in_err-put_all-clause-front : goal.returns-in_err-put_all-clause-front
returns-in_err-put_all-clause-front g c =
    let kept = g.K.Sink.kept in
    let ops = c.deref-op-items.result.now in
    let op = get_or ops c.loop-op.op-index (Subvolume 0) in
    let events = c.in-Ok-commit.events.items in
    let standing = c.loop-op.maker.volume in
    let P : ℕ → Type 0 = λ k. IsCommitOf (k + 1) standing op events in
    let Q : List Event → Type 0 = λ l. MayBeAppended (kept c.loop-op.out) (spelling_of_all l) (kept c.put_all.new.out) in
    any_err (Gained IsFront (kept c.args.out.now) (kept c.put_all.new.out)) c.from_residual-in_err-put_all.result
    (failed ops c.loop-op.op-index c.loop-op.room op events standing (kept c.args.out.now) (kept c.loop-op.out) (kept c.put_all.new.out) c.loop-op.invariant.gained
    (subst P c.loop-op.invariant.number c.in-Ok-commit.ensures.made) (subst Q c.deref.ensures.value c.in_err-put_all.ensures.partly))

pub loop-op-preserved : goal.loop-op-preserved
loop-op-preserved g c =
    let kept = g.K.Sink.kept in
    let ops = c.deref-op-items.result.now in
    let op = get_or ops c.loop-op.op-index (Subvolume 0) in
    let events = c.in-Ok-commit.events.items in
    let standing = c.loop-op.maker.volume in
    let P : ℕ → Type 0 = λ k. IsCommitOf (k + 1) standing op events in
    let Q : List Event → Type 0 = λ l. kept c.put_all.new.out ≡ and_then (kept c.loop-op.out) (spelling_of_all l) in
    record {
      number = ap (λ (k : ℕ). k + 1) c.loop-op.invariant.number;
      in_chunk = c.in-Ok-commit.ensures.in_chunk;
      up_to = c.in-Ok-commit.ensures.up_to;
      gained = more ops c.loop-op.op-index c.loop-op.room _ op events standing c.commit.new.self.volume (kept c.args.out.now) (kept c.loop-op.out) (kept c.put_all.new.out) c.loop-op.invariant.gained (omega arith) (omega arith)
          c.loop-op-test.true (take_more ops c.loop-op.op-index (Subvolume 0) c.loop-op-test.true)
          (subst P c.loop-op.invariant.number c.in-Ok-commit.ensures.made)
          (c.in-Ok-commit.ensures.volume ∙ ap (λ (k : ℕ). carried_out (k + 1) op standing) c.loop-op.invariant.number) (subst Q c.deref.ensures.value c.in_ok-put_all.ensures.appended);
      faults = c.in_ok-put_all.ensures.cause ∙ c.loop-op.invariant.faults;
    }

pub returns-clause-made : goal.returns-clause-made
returns-clause-made g c =
    let kept = g.K.Sink.kept in
    let ops = c.deref-op-items.result.now in
    let planned : ops ≡ plan_of c.args.seed c.args.commits = c.deref-op-items.ensures.value ∙ c.in-Ok.ensures.plan in
    let size : length ops ≡ c.args.commits = ap (λ (l : List Operation). length l) c.deref-op-items.ensures.value ∙ c.in-Ok.ensures.count in
    ok_then _ (Gained (IsMade c.args.seed c.args.commits) (kept c.args.out.now) (kept c.put-2.new.out)) c.put-2.result c.put-2.ensures.appended
    (λ told. ended c.args.seed c.args.commits ops c.loop-op.op-index c.loop-op.room c.loop-op.maker.volume (kept c.args.out.now) (kept c.loop-op.out) (kept c.put-2.new.out)
    c.loop-op.invariant.gained planned size (grind (arith, common_steps)) told)

pub returns-clause-front : goal.returns-clause-front
returns-clause-front g c =
    let kept = g.K.Sink.kept in
    err_then _ (Gained IsFront (kept c.args.out.now) (kept c.put-2.new.out)) c.put-2.result c.put-2.ensures.partly
    (λ told. cut c.deref-op-items.result.now c.loop-op.op-index c.loop-op.room c.loop-op.maker.volume (kept c.args.out.now) (kept c.loop-op.out) (kept c.put-2.new.out) c.loop-op.invariant.gained told)
