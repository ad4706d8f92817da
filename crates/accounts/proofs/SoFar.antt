-- Postings that are put behind a list one after the other.
use Rattle.std.proofs.Common.{◌≡◌, ℕ, ◌+◌, ◌-◌, ◌<◌, ◌≤◌, List, [], ◌++◌, length, take, drop, refl, ap, sym, ◌∙◌, append_assoc, append-nil, length-append, length-drop, arith}
use Rattle.std.specs.Prelude.{Result, Ok, Err, IsErr}
use Rattle.std.proofs.Math.Seq.{take-append_seam, take-append-add}
use Rattle.std.proofs.lemmas.List.{take-append-drop}
use Rattle.accounts.specs.declared.postings.Posting.{Posting}
use Rattle.accounts.specs.Posts.{Posts, StandInPart}

-- behind an old list a first part of all postings stands so far, and these are left
pub record PostsSoFar (old now all left : List Posting) : Type 0 where
  pub whole : now ++ left ≡ old ++ all
  pub longer : length old ≤ length now

pub so_far_none : (old all : List Posting) → PostsSoFar old old all all
so_far_none old all = record { whole = refl; longer = omega arith }

-- some of what is left follow
pub so_far_more : (old now next all here some left : List Posting) → PostsSoFar old now all here → here ≡ some ++ left → next ≡ now ++ some → PostsSoFar old next all left
so_far_more old now next all here some left before split more = record {
  whole = rw more (append_assoc now some left ∙ ap (λ xs. now ++ xs) (sym split) ∙ before.whole);
  longer = omega (arith, before.longer, length-append now some, ap length more);
}

-- nothing is left
pub so_far_all : {T E : Type 0} (old now all here : List Posting) (value : T) → PostsSoFar old now all here → here ≡ [] → Posts {T = T} {E = E} old now (Ok value) all
so_far_all old now all here value before none = record {
  all = sym (append-nil now) ∙ ap (λ xs. now ++ xs) (sym none) ∙ before.whole;
  some = tt;
}

-- so far a first part stands there, where something is left
front_stands : (old now all left : List Posting) → PostsSoFar old now all left → 0 < length left → StandInPart old now all
front_stands old now all left here some =
    let n : ℕ = length now - length old in
    let size : length now ≡ length old + n = omega (arith, here.longer) in
    record {
      count = n;
      fewer = omega (arith, here.longer, some, ap length here.whole, length-append now left, length-append old all);
      front = sym (take-append_seam now left) ∙ ap (take (length now)) here.whole ∙ ap (λ m. take m (old ++ all)) size ∙ take-append-add old all n;
    }

posts_err : {T E : Type 0} (old now all : List Posting) (result : Result T E) → IsErr result → StandInPart old now all → Posts old now result all
posts_err old now all (Ok value) failed part = absurd (cc)
posts_err old now all (Err error) failed part = record { all = tt; some = part }

-- a call that is to put one thing or more fails, and leaves the list
pub so_far_stops : {T E : Type 0} (old now next all left : List Posting) (result : Result T E) → IsErr result → PostsSoFar old now all left → 0 < length left → next ≡ now → Posts old next result all
so_far_stops old now next all left result failed here some same = rw same (posts_err old now all result failed (front_stands old now all left here some))

-- a call that posts some of what is left fails
pub so_far_cut : {T E : Type 0} (old now next all here some left : List Posting) (result : Result T E) → IsErr result → PostsSoFar old now all here → here ≡ some ++ left → StandInPart now next some → Posts old next result all
so_far_cut old now next all here some left result failed before split part =
    let rest : List Posting = drop part.count some ++ left in
    let parted : here ≡ take part.count some ++ rest = split ∙ ap (λ xs. xs ++ left) (sym (take-append-drop part.count some)) ∙ append_assoc (take part.count some) (drop part.count some) left in
    let more : 0 < length rest = omega (arith, part.fewer, length-append (drop part.count some) left, length-drop part.count some) in
    posts_err old next all result failed (front_stands old next all rest (so_far_more old now next all here (take part.count some) rest before parted part.front) more)
