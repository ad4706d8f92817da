-- What the pairs behind one hand up to it, and what of them stays behind once its block is closed.
use Rattle.std.proofs.Common.{◌≡◌, Bool, true, false, List, [], ◌∷◌, refl, ap, sym, ◌∙◌, arith}
use Rattle.std.proofs.lemmas.Bool.Decides.{nat_tests}
use Rattle.verdict.specs.Rules.{no_key}
use Rattle.live_index.specs.declared.live.Live.{Live}
use Rattle.tree_laws.specs.LivePairs.{greater_key}
use Rattle.live_maker.specs.Opened.{closes, last_below, raised}
use Rattle.live_maker.specs.Closing.{left_of}
use Rattle.live_maker.proofs.Greater.{greater_assoc, greater_swap, none_greater}

-- one of the pairs behind: its block closes that of the pair, or hands its key up
pub below_closed : (live one : Live) (more : List Live) → closes live one ≡ true → last_below live (one ∷ more) ≡ no_key
unfolding last_below
below_closed live one more is = rw is refl

pub below_more : (live one : Live) (more : List Live) → closes live one ≡ false → last_below live (one ∷ more) ≡ greater_key one.last (last_below live more)
unfolding last_below
below_more live one more is = rw is refl

pub left_closed : (live one : Live) (more : List Live) → closes live one ≡ true → left_of live (one ∷ more) ≡ one ∷ more
unfolding left_of
left_closed live one more is = rw is refl

pub left_more : (live one : Live) (more : List Live) → closes live one ≡ false → left_of live (one ∷ more) ≡ left_of live more
unfolding left_of
left_more live one more is = rw is refl

-- a block below one that is below another is below that
closes_through : (x live one : Live) → closes x live ≡ false → closes live one ≡ false → closes x one ≡ false
closes_through x live one a b = grind (arith, nat_tests)

-- a pair which another is below has what that one has, and what stays behind that one
split_one : (x live one : Live) (more : List Live) (b : Bool) → closes x live ≡ false → closes live one ≡ b
    → greater_key (last_below live more) (last_below x (left_of live more)) ≡ last_below x more
    → greater_key (last_below live (one ∷ more)) (last_below x (left_of live (one ∷ more))) ≡ last_below x (one ∷ more)
split_one x live one more true is here so =
    ap (λ k. greater_key k (last_below x (left_of live (one ∷ more)))) (below_closed live one more here)
    ∙ none_greater (last_below x (left_of live (one ∷ more)))
    ∙ ap (last_below x) (left_closed live one more here)
split_one x live one more false is here so =
    ap (λ k. greater_key k (last_below x (left_of live (one ∷ more)))) (below_more live one more here)
    ∙ ap (λ l. greater_key (greater_key one.last (last_below live more)) (last_below x l)) (left_more live one more here)
    ∙ greater_assoc one.last (last_below live more) (last_below x (left_of live more))
    ∙ ap (greater_key one.last) so
    ∙ sym (below_more x one more (closes_through x live one is here))

split : (x live : Live) (behind : List Live) → closes x live ≡ false → greater_key (last_below live behind) (last_below x (left_of live behind)) ≡ last_below x behind
unfolding last_below left_of
split x live [] is = none_greater no_key
split x live (one ∷ more) is = split_one x live one more (closes live one) is refl (split x live more is)

-- Two lists of pairs hand the same up to whatever pair stands before them.
pub record Alike (first second : List Live) : Type 0 where
  pub below : (x : Live) → last_below x first ≡ last_below x second

-- once the block of a pair is closed, it stands with those that stay behind for it and all that were behind
pub alike_one : (x live : Live) (behind rest : List Live) (b : Bool) → closes x live ≡ b → Alike behind rest
    → last_below x (raised (last_below live behind) live ∷ left_of live behind) ≡ last_below x (live ∷ rest)
alike_one x live behind rest true is alike =
    below_closed x (raised (last_below live behind) live) (left_of live behind) is ∙ sym (below_closed x live rest is)
alike_one x live behind rest false is alike =
    below_more x (raised (last_below live behind) live) (left_of live behind) is
    ∙ greater_swap (last_below live behind) live.last (last_below x (left_of live behind))
    ∙ ap (greater_key live.last) (split x live behind is ∙ alike.below x)
    ∙ sym (below_more x live rest is)

pub alike_more : (live : Live) (behind rest : List Live) → Alike behind rest → Alike (raised (last_below live behind) live ∷ left_of live behind) (live ∷ rest)
alike_more live behind rest alike = record { below = λ x. alike_one x live behind rest (closes x live) refl alike }
