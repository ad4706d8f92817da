use Rattle.std.proofs.Common.{◌≡◌, true, false, length, IfSome, refl, sym, arith, ap, ◌∙◌, subst}
use Rattle.std.proofs.Common.{IsSomeAnd}
use Rattle.std.proofs.lemmas.Result.{on_err_weaker, on_ok_weaker}
use Rattle.verdict.specs.Events.{begin_of, length_of, meets_superblock}
use Rattle.verdict.specs.declared.machine.Stop.TheVariants.{DiskFault}
use Rattle.recon_core.specs.Looks.{HasLooks, work_at}
use Rattle.recon_core.specs.Machine.{machine_step}
use Rattle.recon_core.specs.Moments.{IsFlushedAs, LeavesAfter}
use Rattle.recon_core.specs.Standing.{Takes}
use Rattle.recon_core.specs.Stops.{IsStopImage}
use Rattle.recon_core.proofs.Steps.{fetched_by, held_no_fetch, judged_no_fetch, at_err, below_after, below_held, takes_commit, stop_commit, takes_settle, stop_settle, takes_held, takes_fetch, with_ok, weaker, each_ok, looks_commit, looks_none, looks_settle, reads_held, reads_judged, safe_by, stops_commit, stops_none, stops_settle}
use Rattle.recon_core.proofs.checker.Checker.event.Goals as goal

pub returns-then-meets_superblock-clause-step : goal.returns-then-meets_superblock-clause-step
returns-then-meets_superblock-clause-step g c state stands told none =
    let a : c.range-at.result.0 ≡ c.in-Write.at = c.range-at.ensures.at ∙ ap begin_of c.in-Write.is in
    let n : c.range-at.result.1 ≡ length c.in-Write.bytes = c.range-at.ensures.len ∙ ap length_of c.in-Write.is in
    let s : c.args.self.now.length ≡ length state.image = stands.size in
    let meets : meets_superblock c.in-Write.at (length c.in-Write.bytes) ≡ true =
    ap (meets_superblock c.in-Write.at) (sym n) ∙ sym c.meets_superblock.ensures ∙ c.if-meets_superblock.true in
    with_ok c.commit.result (λ answer settled new.
    subst (λ e. Takes (machine_step state e) answer c.commit.new.self (g.D.Disk.bytes c.commit.new.disk)) (sym c.in-Write.is)
    (takes_commit c.args.self.now c.commit.new.self state c.in-Write.submitter c.in-Write.at c.in-Write.bytes answer (g.D.Disk.bytes c.args.disk.now) (g.D.Disk.bytes c.commit.new.disk)
    stands (omega arith) meets told settled new))
    c.commit.ensures.judged.settled c.commit.ensures.ok

pub returns-then-meets_superblock-clause-stop : goal.returns-then-meets_superblock-clause-stop
returns-then-meets_superblock-clause-stop g c state stands told fault =
    let a : c.range-at.result.0 ≡ c.in-Write.at = c.range-at.ensures.at ∙ ap begin_of c.in-Write.is in
    let n : c.range-at.result.1 ≡ length c.in-Write.bytes = c.range-at.ensures.len ∙ ap length_of c.in-Write.is in
    let s : c.args.self.now.length ≡ length state.image = stands.size in
    let meets : meets_superblock c.in-Write.at (length c.in-Write.bytes) ≡ true =
    ap (meets_superblock c.in-Write.at) (sym n) ∙ sym c.meets_superblock.ensures ∙ c.if-meets_superblock.true in
    subst (λ e. IsSomeAnd (g.D.Disk.bytes c.commit.new.disk) (IsStopImage state e)) (sym c.in-Write.is)
    (stop_commit c.args.self.now state c.in-Write.submitter c.in-Write.at c.in-Write.bytes (g.D.Disk.bytes c.args.disk.now) (g.D.Disk.bytes c.commit.new.disk)
    stands (omega arith) meets told (at_err c.commit.result DiskFault fault c.commit.ensures.judged.left))

pub returns-else-meets_superblock-clause-step : goal.returns-else-meets_superblock-clause-step
returns-else-meets_superblock-clause-step g c state stands told none =
    let a : c.range-at.result.0 ≡ c.in-Write.at = c.range-at.ensures.at ∙ ap begin_of c.in-Write.is in
    let n : c.range-at.result.1 ≡ length c.in-Write.bytes = c.range-at.ensures.len ∙ ap length_of c.in-Write.is in
    let s : c.args.self.now.length ≡ length state.image = stands.size in
    let misses : meets_superblock c.in-Write.at (length c.in-Write.bytes) ≡ false =
    ap (meets_superblock c.in-Write.at) (sym n) ∙ sym c.meets_superblock.ensures ∙ c.if-meets_superblock.false in
    with_ok c.hold.result (λ answer is new.
    subst (λ e. Takes (machine_step state e) answer c.hold.new.self (g.D.Disk.bytes c.args.disk.now)) (sym c.in-Write.is)
    (takes_held c.args.self.now c.hold.new.self state c.in-Write.submitter c.in-Write.at c.in-Write.bytes answer (g.D.Disk.bytes c.args.disk.now)
    stands (omega arith) misses told is new))
    c.hold.ensures.answer c.hold.ensures.ok

pub returns-else-meets_superblock-clause-inside : goal.returns-else-meets_superblock-clause-inside
returns-else-meets_superblock-clause-inside g c =
    let a : c.range-at.result.0 ≡ c.in-Write.at = c.range-at.ensures.at ∙ ap begin_of c.in-Write.is in
    let n : c.range-at.result.1 ≡ length c.in-Write.bytes = c.range-at.ensures.len ∙ ap length_of c.in-Write.is in
    below_held c.args.self.now.length c.hold.result c.args.self.now c.hold.new.self c.in-Write.at c.in-Write.bytes c.requires.below (omega arith) c.hold.ensures.ok
    (weaker c.hold.result (λ e h. h.1) c.hold.ensures.err)

pub returns-in-Settle-clause-step : goal.returns-in-Settle-clause-step
returns-in-Settle-clause-step g c state stands told none =
    with_ok c.settle.result (λ answer settled new.
    subst (λ e. Takes (machine_step state e) answer c.settle.new.self (g.D.Disk.bytes c.settle.new.disk)) (sym c.in-Settle.is)
    (takes_settle c.args.self.now c.settle.new.self state answer (g.D.Disk.bytes c.args.disk.now) (g.D.Disk.bytes c.settle.new.disk) stands told settled new))
    c.settle.ensures.judged.settled c.settle.ensures.ok

pub returns-in-Settle-clause-stop : goal.returns-in-Settle-clause-stop
returns-in-Settle-clause-stop g c state stands told fault =
    subst (λ e. IsSomeAnd (g.D.Disk.bytes c.settle.new.disk) (IsStopImage state e)) (sym c.in-Settle.is)
    (stop_settle c.args.self.now state (g.D.Disk.bytes c.args.disk.now) (g.D.Disk.bytes c.settle.new.disk) stands told (at_err c.settle.result DiskFault fault c.settle.ensures.judged.left))

pub returns-in-Settle-clause-inside : goal.returns-in-Settle-clause-inside
returns-in-Settle-clause-inside g c =
    below_after c.args.self.now.length c.settle.result c.args.self.now.cache c.settle.new.self.cache c.requires.below
    (on_ok_weaker c.settle.result (λ new. ap (λ k. k.cache) new) c.settle.ensures.ok)
    (on_err_weaker c.settle.result (λ new. ap (λ k. k.cache) new) c.settle.ensures.err)

pub returns-in-Fetch-clause-step : goal.returns-in-Fetch-clause-step
returns-in-Fetch-clause-step g c state stands told none =
    with_ok c.fetch.result (λ answer says new.
    subst (λ e. Takes (machine_step state e) answer c.fetch.new.self (g.D.Disk.bytes c.fetch.new.disk)) (sym c.in-Fetch.is)
    (takes_fetch c.args.self.now c.fetch.new.self state c.in-Fetch.at c.in-Fetch.len answer (g.D.Disk.bytes c.args.disk.now) (g.D.Disk.bytes c.fetch.new.disk) stands told c.fetch.ensures.kept.bytes new says))
    c.fetch.ensures.bytes c.fetch.ensures.ok

pub returns-then-meets_superblock-clause-reads : goal.returns-then-meets_superblock-clause-reads
returns-then-meets_superblock-clause-reads g c state stands told =
    each_ok c.commit.result (λ answer reads. reads_judged c.args.self.now state answer (g.D.Disk.bytes c.args.disk.now) (g.D.Disk.reads c.args.disk.now) (g.D.Disk.reads c.commit.new.disk) stands told reads)
    c.commit.ensures.judged.reads

pub returns-else-meets_superblock-clause-reads : goal.returns-else-meets_superblock-clause-reads
returns-else-meets_superblock-clause-reads g c state stands told =
    each_ok c.hold.result (λ answer is. reads_held answer (g.D.Disk.reads c.args.disk.now) is) c.hold.ensures.answer

pub returns-in-Settle-clause-reads : goal.returns-in-Settle-clause-reads
returns-in-Settle-clause-reads g c state stands told =
    each_ok c.settle.result (λ answer reads. reads_judged c.args.self.now state answer (g.D.Disk.bytes c.args.disk.now) (g.D.Disk.reads c.args.disk.now) (g.D.Disk.reads c.settle.new.disk) stands told reads)
    c.settle.ensures.judged.reads

pub returns-in-Fetch-clause-reads : goal.returns-in-Fetch-clause-reads
returns-in-Fetch-clause-reads g c state stands told = c.fetch.ensures.reads

pub returns-then-meets_superblock-clause-looks : goal.returns-then-meets_superblock-clause-looks
returns-then-meets_superblock-clause-looks g c state stands told =
    let n : c.range-at.result.1 ≡ length c.in-Write.bytes = c.range-at.ensures.len ∙ ap length_of c.in-Write.is in
    let meets : meets_superblock c.in-Write.at (length c.in-Write.bytes) ≡ true =
    ap (meets_superblock c.in-Write.at) (sym n) ∙ sym c.meets_superblock.ensures ∙ c.if-meets_superblock.true in
    each_ok c.commit.result (λ answer looks.
    subst (λ e. HasLooks answer (work_at state e) c.args.steps.now c.commit.new.steps) (sym c.in-Write.is)
    (looks_commit c.args.self.now state c.in-Write.submitter c.in-Write.at c.in-Write.bytes answer (g.D.Disk.bytes c.args.disk.now) c.args.steps.now
    c.commit.new.steps stands told meets looks)) c.commit.ensures.looks

pub returns-else-meets_superblock-clause-looks : goal.returns-else-meets_superblock-clause-looks
returns-else-meets_superblock-clause-looks g c state stands told =
    each_ok c.hold.result (λ answer is. looks_none answer _ c.args.steps.now) c.hold.ensures.answer

pub returns-in-Settle-clause-looks : goal.returns-in-Settle-clause-looks
returns-in-Settle-clause-looks g c state stands told =
    each_ok c.settle.result (λ answer looks.
    subst (λ e. HasLooks answer (work_at state e) c.args.steps.now c.settle.new.steps) (sym c.in-Settle.is)
    (looks_settle c.args.self.now state answer (g.D.Disk.bytes c.args.disk.now) c.args.steps.now c.settle.new.steps stands told looks))
    c.settle.ensures.looks

pub returns-in-Fetch-clause-looks : goal.returns-in-Fetch-clause-looks
returns-in-Fetch-clause-looks g c state stands told =
    each_ok c.fetch.result (λ answer reads. looks_none answer _ c.args.steps.now) c.fetch.ensures.reads

pub returns-then-meets_superblock-clause-stops : goal.returns-then-meets_superblock-clause-stops
returns-then-meets_superblock-clause-stops g c state stands told none =
    let a : c.range-at.result.0 ≡ c.in-Write.at = c.range-at.ensures.at ∙ ap begin_of c.in-Write.is in
    let n : c.range-at.result.1 ≡ length c.in-Write.bytes = c.range-at.ensures.len ∙ ap length_of c.in-Write.is in
    let s : c.args.self.now.length ≡ length state.image = stands.size in
    let meets : meets_superblock c.in-Write.at (length c.in-Write.bytes) ≡ true =
    ap (meets_superblock c.in-Write.at) (sym n) ∙ sym c.meets_superblock.ensures ∙ c.if-meets_superblock.true in
    subst (λ e. IfSome (g.D.Disk.moments c.args.disk.now) (λ before. IsFlushedAs state.image before → LeavesAfter (IsStopImage state e) before (g.D.Disk.moments c.commit.new.disk))) (sym c.in-Write.is)
    (stops_commit c.args.self.now state c.in-Write.submitter c.in-Write.at c.in-Write.bytes (g.D.Disk.bytes c.args.disk.now) (g.D.Disk.moments c.args.disk.now) (g.D.Disk.moments c.commit.new.disk)
    stands (omega arith) meets told c.commit.ensures.leaves)

pub returns-in-Settle-clause-stops : goal.returns-in-Settle-clause-stops
returns-in-Settle-clause-stops g c state stands told none =
    subst (λ e. IfSome (g.D.Disk.moments c.args.disk.now) (λ before. IsFlushedAs state.image before → LeavesAfter (IsStopImage state e) before (g.D.Disk.moments c.settle.new.disk))) (sym c.in-Settle.is)
    (stops_settle c.args.self.now state (g.D.Disk.bytes c.args.disk.now) (g.D.Disk.moments c.args.disk.now) (g.D.Disk.moments c.settle.new.disk) stands told c.settle.ensures.leaves)

pub returns-in-Fetch-clause-stops : goal.returns-in-Fetch-clause-stops
returns-in-Fetch-clause-stops g c state stands told none =
    stops_none (IsStopImage state c.args.ev) state.image (g.D.Disk.moments c.args.disk.now) (g.D.Disk.moments c.fetch.new.disk) c.fetch.ensures.kept.moments

pub returns-else-meets_superblock-clause-stops : goal.returns-else-meets_superblock-clause-stops
returns-else-meets_superblock-clause-stops g c state stands told none =
    stops_none (IsStopImage state c.args.ev) state.image (g.D.Disk.moments c.args.disk.now) (g.D.Disk.moments c.args.disk.now) refl

pub returns-then-meets_superblock-clause-safe : goal.returns-then-meets_superblock-clause-safe
returns-then-meets_superblock-clause-safe g c = safe_by c.args.self.now c.args.ev c.stop_law.ensures

pub returns-else-meets_superblock-clause-safe : goal.returns-else-meets_superblock-clause-safe
returns-else-meets_superblock-clause-safe g c = safe_by c.args.self.now c.args.ev c.stop_law.ensures

pub returns-in-Settle-clause-safe : goal.returns-in-Settle-clause-safe
returns-in-Settle-clause-safe g c = safe_by c.args.self.now c.args.ev c.stop_law.ensures

pub returns-in-Fetch-clause-safe : goal.returns-in-Fetch-clause-safe
returns-in-Fetch-clause-safe g c = safe_by c.args.self.now c.args.ev c.stop_law.ensures

pub returns-then-meets_superblock-clause-fetched : goal.returns-then-meets_superblock-clause-fetched
returns-then-meets_superblock-clause-fetched g c =
    each_ok c.commit.result (λ answer judged. judged_no_fetch answer (g.D.Disk.reads c.args.disk.now) (g.D.Disk.reads c.commit.new.disk) judged) c.commit.ensures.sort

pub returns-else-meets_superblock-clause-fetched : goal.returns-else-meets_superblock-clause-fetched
returns-else-meets_superblock-clause-fetched g c =
    each_ok c.hold.result (λ answer is. held_no_fetch answer (g.D.Disk.reads c.args.disk.now) (g.D.Disk.reads c.args.disk.now) is) c.hold.ensures.answer

pub returns-in-Settle-clause-fetched : goal.returns-in-Settle-clause-fetched
returns-in-Settle-clause-fetched g c =
    each_ok c.settle.result (λ answer judged. judged_no_fetch answer (g.D.Disk.reads c.args.disk.now) (g.D.Disk.reads c.settle.new.disk) judged) c.settle.ensures.sort

pub returns-in-Fetch-clause-fetched : goal.returns-in-Fetch-clause-fetched
returns-in-Fetch-clause-fetched g c =
    each_ok c.fetch.result (λ answer reads. fetched_by answer (g.D.Disk.reads c.args.disk.now) (g.D.Disk.reads c.fetch.new.disk) reads) c.fetch.ensures.reads
