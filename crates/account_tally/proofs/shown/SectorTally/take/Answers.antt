use Rattle.std.proofs.Common.{◌≡◌, ◌∙◌, ap, sym}
use Rattle.std.specs.Prelude.{Some}
use Rattle.accounts.specs.Context.{Context}
use Rattle.records.specs.Part.{located}
use Rattle.records.specs.SpacePostings.{sector_sum}
use Rattle.sector_runs.specs.Edges.{sums_of}
use Rattle.sector_runs.specs.Runs.{amount_in}
use Rattle.account_tally.specs.Sums.{context_with, none_free}
use Rattle.account_tally.proofs.ShownSums.{added_run, on_ok, with_none, with_other, with_shown}
use Rattle.account_tally.proofs.shown.SectorTally.take.Goals as goal

pub returns-in_default-clause-sums : goal.returns-in_default-clause-sums
returns-in_default-clause-sums g c =
    let context = g.C.Ctx.context c.args.context.now in
    let whole : context ≡ context_with context.chunks context.nodesize none_free = c.requires.all in
    with_none context.chunks context.nodesize _ (located c.args.one.now)
    (λ address field. ap (λ (x : Context). sector_sum x c.args.one.now.tree (located c.args.one.now).part address field) (sym whole) ∙ c.run_of.ensures.sums c.requires.lawful address field
    ∙ ap (λ r. amount_in r address field) c.in_default.is)

pub returns-in-Some-inode_of-clause-sums : goal.returns-in-Some-inode_of-clause-sums
returns-in-Some-inode_of-clause-sums g c =
    let context = g.C.Ctx.context c.args.context.now in
    let whole : context ≡ context_with context.chunks context.nodesize none_free = c.requires.all in
    on_ok c.show.result c.show.ensures.sums
    (with_shown context.chunks context.nodesize _ _ (located c.args.one.now) (Some c.in-Some.run')
    (λ address field. ap (λ (x : Context). sector_sum x c.args.one.now.tree (located c.args.one.now).part address field) (sym whole) ∙ c.run_of.ensures.sums c.requires.lawful address field
    ∙ ap (λ r. amount_in r address field) c.in-Some.is)
    c.in-Some-inode_of.ino (sym c.inode_of.ensures ∙ c.in-Some-inode_of.is))

pub returns-in-None-clause-sums : goal.returns-in-None-clause-sums
returns-in-None-clause-sums g c =
    let context = g.C.Ctx.context c.args.context.now in
    let whole : context ≡ context_with context.chunks context.nodesize none_free = c.requires.all in
    on_ok c.add.result c.add.ensures
    (λ added. with_other context.chunks context.nodesize _ _ (located c.args.one.now) (Some c.in-Some.run')
    (λ address field. ap (λ (x : Context). sector_sum x c.args.one.now.tree (located c.args.one.now).part address field) (sym whole) ∙ c.run_of.ensures.sums c.requires.lawful address field
    ∙ ap (λ r. amount_in r address field) c.in-Some.is)
    (sym c.inode_of.ensures ∙ c.in-None.is)
    (λ free address field. added_run (sums_of c.args.self.now.sectors) (sums_of c.add.new.self) c.in-Some.run' c.args.self.now.shown.items free address field added))
