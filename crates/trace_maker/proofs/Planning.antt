-- A plan, one commit after the other.
use Rattle.std.proofs.Common.{◌≡◌, ℕ, zero, suc, ◌+◌, ◌-◌, ◌<◌, List, [], ◌∷◌, ◌++◌, length, refl, sym, ◌∙◌, subst, append_assoc, append-nil, arith}
use Rattle.trace_maker.specs.declared.operation.Operation.{Operation}
use Rattle.trace_maker.specs.Plan.{Planned, plan_commit, plan_from}

-- the operation of the next commit stands in front of those behind it
next_plan : (n m k : ℕ) (p : Planned) → n ≡ suc m → plan_from n k p ≡ (plan_commit k p).0 ∷ plan_from m (k + 1) (plan_commit k p).1
unfolding plan_from
next_plan n m k p e = rw e refl

-- one more operation of the plan
pub plan_more : (ops : List Operation) (op : Operation) (after p : Planned) (commits before : ℕ) (whole : List Operation) → before < commits
    → op ≡ (plan_commit (before + 1) p).0 → after ≡ (plan_commit (before + 1) p).1
    → ops ++ plan_from (commits - before) (before + 1) p ≡ whole
    → (ops ++ op ∷ []) ++ plan_from (commits - (before + 1)) ((before + 1) + 1) after ≡ whole
plan_more ops op after p commits before whole h e f told =
    let next : plan_from (commits - before) (before + 1) p ≡ (plan_commit (before + 1) p).0 ∷ plan_from (commits - (before + 1)) ((before + 1) + 1) (plan_commit (before + 1) p).1 =
    next_plan (commits - before) (commits - (before + 1)) (before + 1) p (omega arith) in
    rw append_assoc (rw (e, f) (rw (← next) told))

-- no commit is left
pub plan_done : (ops whole : List Operation) (n k : ℕ) (p : Planned) → n ≡ 0 → ops ++ plan_from n k p ≡ whole → ops ≡ whole
unfolding plan_from
plan_done ops whole n k p e told =
    let P : ℕ → Type 0 = λ m. ops ++ plan_from m k p ≡ whole in
    sym (append-nil ops) ∙ subst P e told

-- a plan has as many operations as commits
pub plan_count : (n k : ℕ) (p : Planned) → length (plan_from n k p) ≡ n
unfolding plan_from
plan_count zero k p = refl
plan_count (suc n) k p = omega (arith, plan_count n (k + 1) (plan_commit k p).1)
