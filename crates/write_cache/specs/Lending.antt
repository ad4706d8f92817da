-- What a cache is once what it lent is given back.
use Rattle.std.specs.Prelude.{◌≡◌, ℕ, ⊤}
use Rattle.std.specs.Borrow.{follows_so, MutBor, Fml}
use Rattle.std.specs.Ordering.{nat_cmp}
use Rattle.std.specs.FinMap.{FinMap}
use mathlib.Core.Option.{none}
use Rattle.write_cache.specs.contracts.cache.WriteCache.{the_row}

-- it is what it was
abbrev pub StaysAsItWas : MutBor (FinMap nat_cmp ℕ) → Fml
StaysAsItWas cache = follows_so the_row the_row cache.ghost_name none (λ _ _. ⊤) (λ last. last ≡ cache.now)
