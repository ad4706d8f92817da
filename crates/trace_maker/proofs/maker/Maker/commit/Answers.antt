use Rattle.std.proofs.Common.{◌≡◌, ℕ, ◌+◌, [], ◌∷◌, ◌++◌, sym, subst, arith}
use Rattle.std.proofs.lemmas.Grind.{common_steps}
use Rattle.volume_maker.specs.declared.trees.Trees.{Trees}
use Rattle.volume_maker.specs.Live.{all_blocks, AreInChunk, IsBefore, IsUpTo, IsOverNoLive}
use Rattle.trace_maker.proofs.Gathering.{whole_commit}
use Rattle.trace_maker.proofs.Missing.{before_next, commit_misses}
use Rattle.trace_maker.proofs.maker.Maker.commit.Goals as goal

pub remake-requires-clause-in_chunk : goal.remake-requires-clause-in_chunk
remake-requires-clause-in_chunk c =
    let P : Trees → Type 0 = λ t. AreInChunk (all_blocks t) in
    subst P (sym c.carry_out.ensures.trees) c.requires.in_chunk

pub remake-requires-clause-before : goal.remake-requires-clause-before
remake-requires-clause-before c =
    let same : c.args.k ≡ c.from-generation.result = omega arith in
    let P : Trees → Type 0 = λ t. IsBefore (c.from-generation.result + 1) (all_blocks t) in
    let Q : ℕ → Type 0 = λ k. IsUpTo k (all_blocks c.args.self.now.trees) in
    subst P (sym c.carry_out.ensures.trees) (before_next c.from-generation.result (all_blocks c.args.self.now.trees) (subst Q same c.requires.up_to))

pub returns-clause-made : goal.returns-clause-made
returns-clause-made c =
    let first = c.in_ok-events.events.items in
    let mid = c.add_copies.new.into.items in
    let front = c.add_copies-2.new.into.items in
    let pushed : c.push.new.self.items ≡ front ++ c.in_ok-last.last ∷ [] = grind (arith, common_steps) in
    whole_commit c.args.k c.args.self.now.volume c.args.op.now c.in_ok-sector.sector first front c.push.new.self.items c.in_ok-last.last
    c.in_ok-sector.ensures.place c.in_ok-events.ensures.data c.in_ok-events.ensures.lawful
    (c.from-generation.result + 1) (all_blocks c.remake.new.self) mid c.in_ok-add_copies.ensures c.in_ok-add_copies-2.ensures pushed c.in_ok-last.ensures

pub returns-clause-misses_live : goal.returns-clause-misses_live
returns-clause-misses_live c =
    let generation = c.from-generation.result + 1 in
    let old = all_blocks c.args.self.now.trees in
    let new = all_blocks c.remake.new.self in
    let mid = c.add_copies.new.into.items in
    let front = c.add_copies-2.new.into.items in
    let pushed : c.push.new.self.items ≡ front ++ c.in_ok-last.last ∷ [] = grind (arith, common_steps) in
    let P : Trees → Type 0 = λ t. IsOverNoLive generation (all_blocks t) new in
    commit_misses generation old new c.in_ok-events.events.items mid front c.push.new.self.items c.in_ok-last.last
    c.requires.in_chunk c.in_ok-remake.ensures.in_chunk (subst P c.carry_out.ensures.trees c.in_ok-remake.ensures.over_no_live)
    c.in_ok-events.ensures.behind c.in_ok-add_copies.ensures c.in_ok-add_copies-2.ensures pushed c.in_ok-last.ensures

pub returns-clause-up_to : goal.returns-clause-up_to
returns-clause-up_to c =
    let same : c.from-generation.result ≡ c.args.k = omega arith in
    let P : ℕ → Type 0 = λ k. IsUpTo (k + 1) (all_blocks c.remake.new.self) in
    subst P same c.in_ok-remake.ensures.up_to
