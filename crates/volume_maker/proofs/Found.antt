-- What a search through a list has found.
use Rattle.std.proofs.Common.{◌≡◌, ℕ, suc, ◌+◌, ◌≤◌, Bool, true, false, cond, ltb, List, [], ◌++◌, length, take, drop, Option, Some, None, option_map, refl, sym, ap, ◌∙◌, add-one, append-nil, arith}
use Rattle.std.specs.List.{position_or_len, before_first, after_first}
use Rattle.std.proofs.lemmas.List.{take_all, drop_all}
use Rattle.std.proofs.lemmas.Bool.{ltb-false}

pub found_none : {A B : Type 0} (v : A → B) (r : Option A) (o : Option B) → option_map v r ≡ o → r ≡ None → o ≡ None
found_none v r o e is = sym e ∙ ap (λ s. option_map v s) is

pub found_some : {A B : Type 0} (v : A → B) (r : Option A) (o : Option B) (x : A) → option_map v r ≡ o → r ≡ Some x → o ≡ Some (v x)
found_some v r o x e is = sym e ∙ ap (λ s. option_map v s) is

some_of_cond : (b : Bool) (n i : ℕ) → Some i ≡ cond b (Some n) None → i ≡ n
some_of_cond true n i e = cc
some_of_cond false n i e = cc

none_of_cond : (b : Bool) (n : ℕ) → None ≡ cond b (Some n) None → b ≡ false
none_of_cond true n e = cc
none_of_cond false n e = refl

-- the first that passes is taken away
pub taken_away : {X : Type 0} (p : X → Bool) (xs : List X) (r : Option ℕ) (i : ℕ)
    → r ≡ cond (ltb (position_or_len p xs) (length xs)) (Some (position_or_len p xs)) None → r ≡ Some i
    → take i xs ++ drop (suc i) xs ≡ before_first p xs ++ after_first p xs
taken_away p xs r i e is =
    let here : i ≡ position_or_len p xs = some_of_cond _ _ i (sym is ∙ e) in
    ap (λ k. take k xs ++ drop (suc k) xs) here ∙ ap (λ k. before_first p xs ++ drop k xs) (sym (add-one (position_or_len p xs)))

-- none passes, and nothing is taken away
pub none_taken : {X : Type 0} (p : X → Bool) (xs : List X) (r : Option ℕ)
    → r ≡ cond (ltb (position_or_len p xs) (length xs)) (Some (position_or_len p xs)) None → r ≡ None
    → xs ≡ before_first p xs ++ after_first p xs
none_taken p xs r e is =
    let past : length xs ≤ position_or_len p xs = ltb-false _ _ (none_of_cond _ (position_or_len p xs) (sym is ∙ e)) in
    let behind : length xs ≤ position_or_len p xs + 1 = omega arith in
    sym (append-nil xs) ∙ ap (λ l. l ++ []) (sym (take_all _ xs past)) ∙ ap (λ l. before_first p xs ++ l) (sym (drop_all _ xs behind))
