use Rattle.std.proofs.Common.{◌+◌, ◌*◌, subst}
use Rattle.std.specs.Prelude.{OnOk}
use Rattle.std.specs.Ordering.{nat_cmp}
use Rattle.std.specs.BTreeMap.{get}
use Rattle.sector_runs.proofs.Below.{AreEdgesOf, begun_sound, done_or_not, ended_sound, more_sums, no_case, on_done, same_sound}
use Rattle.sector_runs.specs.Kept.{AreSound, IsMarked}
use Rattle.sector_runs.proofs.kept.Sectors.add.Goals as goal

pub invariant_of-self : goal.invariant_of-self
invariant_of-self c = record {
  sound = done_or_not _ c.mark.ensures.ok c.mark.ensures.err
      (begun_sound _ _ c.args.run.now.first c.of.result c.args.self.now.sound c.requires.0 (λ field. no_case _ _ (c.of.ensures.ends field)))
      (same_sound _ _ c.args.self.now.sound);
}

pub invariant_of-self-2 : goal.invariant_of-self-2
invariant_of-self-2 c =
    let edges : AreEdgesOf c.args.run.now c.of.result c.of-2.result = record { begin_begins = c.of.ensures.begins; begin_ends = c.of.ensures.ends; end_begins = c.of-2.ensures.begins; end_ends = c.of-2.ensures.ends } in
    let between : AreSound (get nat_cmp c.mark.new.edges) = begun_sound _ _ c.args.run.now.first c.of.result c.args.self.now.sound c.requires.0 (λ field. no_case _ _ (c.of.ensures.ends field)) c.in_ok-mark.ensures.ok in
    let ended : OnOk c.mark-2.result (IsMarked (get nat_cmp c.mark.new.edges) (get nat_cmp c.mark-2.new.edges) (c.args.run.now.first + c.args.run.now.count * 4096) c.of-2.result) =
    subst (λ at. OnOk c.mark-2.result (IsMarked (get nat_cmp c.mark.new.edges) (get nat_cmp c.mark-2.new.edges) at c.of-2.result)) c.end_of.ensures c.mark-2.ensures.ok in
    record {
      sound = done_or_not _ ended c.mark-2.ensures.err
          (ended_sound _ _ _ c.args.run.now c.of.result c.of-2.result c.args.self.now.sound between c.requires edges c.in_ok-mark.ensures.ok)
          (same_sound _ _ between);
    }

pub returns : goal.returns
returns c =
    let edges : AreEdgesOf c.args.run.now c.of.result c.of-2.result = record { begin_begins = c.of.ensures.begins; begin_ends = c.of.ensures.ends; end_begins = c.of-2.ensures.begins; end_ends = c.of-2.ensures.ends } in
    let ended : OnOk c.mark-2.result (IsMarked (get nat_cmp c.mark.new.edges) (get nat_cmp c.mark-2.new.edges) (c.args.run.now.first + c.args.run.now.count * 4096) c.of-2.result) =
    subst (λ at. OnOk c.mark-2.result (IsMarked (get nat_cmp c.mark.new.edges) (get nat_cmp c.mark-2.new.edges) at c.of-2.result)) c.end_of.ensures c.mark-2.ensures.ok in
    on_done _ ended (more_sums _ _ _ c.args.run.now c.of.result c.of-2.result edges c.in_ok-mark.ensures.ok)
