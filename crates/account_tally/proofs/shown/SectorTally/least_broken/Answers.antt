use Rattle.std.proofs.Common.{rules, ◌+◌, ◌∙◌, ap, sym, subst}
use Rattle.std.proofs.Math.Path.{fun_ext}
use Rattle.sector_runs.specs.Edges.{sums_of}
use Rattle.sector_runs.specs.Runs.{IsLeastBroken, with_run}
use Rattle.account_tally.specs.Kept.{free_in, shown_sums}
use Rattle.account_tally.proofs.ShownSums.{left_out, moved, none_left}
use Rattle.account_tally.proofs.shown.SectorTally.least_broken.Goals as goal

pub loop-one-preserved-in-Continue-1 : goal.loop-one-preserved-in-Continue-1
loop-one-preserved-in-Continue-1 c = record {
  free = c.loop-one.invariant.free;
  sums = λ address field.
      moved (sums_of c.loop-one.self.sectors) (sums_of c.add.new.self) c.pop.new.self.items c.in-Some.one (free_in c.args.self.now.free) address field c.has.result
      (ap (λ free. free c.in-Some.one.tree c.in-Some.one.ino) (sym c.loop-one.invariant.free) ∙ sym c.has.ensures) (cc c.if-not-has.true)
      (c.in_ok-add.ensures ∙ ap (with_run (sums_of c.loop-one.self.sectors)) c.run.ensures)
      ∙ ap (λ s. sums_of c.loop-one.self.sectors address field + shown_sums s (free_in c.args.self.now.free) address field) (sym c.in-Some.ensures.items)
      ∙ c.loop-one.invariant.sums address field;
}

pub loop-one-preserved : goal.loop-one-preserved
loop-one-preserved c = record {
  free = c.loop-one.invariant.free;
  sums = λ address field.
      left_out (sums_of c.loop-one.self.sectors) (sums_of c.loop-one.self.sectors) c.pop.new.self.items c.in-Some.one (free_in c.args.self.now.free) address field c.has.result
      (ap (λ free. free c.in-Some.one.tree c.in-Some.one.ino) (sym c.loop-one.invariant.free) ∙ sym c.has.ensures) (cc c.if-not-has.false)
      ∙ ap (λ s. sums_of c.loop-one.self.sectors address field + shown_sums s (free_in c.args.self.now.free) address field) (sym c.in-Some.ensures.items)
      ∙ c.loop-one.invariant.sums address field;
}

pub returns : goal.returns
returns c =
    subst (λ sums. IsLeastBroken sums c.least_broken.result)
    (sym (none_left (sums_of c.loop-one.self.sectors) c.loop-one.self.shown.items (free_in c.args.self.now.free) (search rules))
    ∙ fun_ext (λ address. fun_ext (λ field. c.loop-one.invariant.sums address field)))
    c.least_broken.ensures
