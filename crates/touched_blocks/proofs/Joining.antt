-- Parts of the writes that touch are joined, which gives the pieces of the writes.
use Rattle.std.proofs.Common.{◌≡◌, ℕ, zero, suc, ◌+◌, ◌<◌, ◌≤◌, ◌==◌, Bool, true, false, cond, ◌||◌, List, [], ◌∷◌, ◌++◌, length, map, get_or, ◌⊎◌, inl, inr, sym, ◌∙◌, refl, ap, subst, arith}
use Rattle.std.specs.Prelude.{Option, Some, is_some}
use Rattle.std.specs.List.{list_any}
use Rattle.std.specs.Ordering.{nat_cmp}
use Rattle.std.specs.FinMap.{FinMap, get}
use Rattle.std.proofs.Math.Bool.{or_assoc}
use Rattle.std.proofs.lemmas.Bool.{cases_lt}
use Rattle.std.proofs.lemmas.Bool.Decides.{nat_tests}
use Rattle.std.proofs.lemmas.List.{append_assoc}
use Rattle.verdict.proofs.Truth.{never}
use Rattle.write_cache.specs.Pieces.{AreApart, AreDisjoint, ArePartsOf, ArePiecesOf, Piece}
use Rattle.touched_blocks.specs.declared.spot.Spot.{Spot}
use Rattle.touched_blocks.specs.Joining.{IsJoined, joined, joined_all, joined_behind, joined_from}
use Rattle.touched_blocks.specs.Looks.{spot_of}
use Rattle.touched_blocks.specs.Spots.{AreSpotsOf, StandApart, has_offset}
use Rattle.touched_blocks.specs.Touched.{written_in}
use Rattle.touched_blocks.proofs.Writing.{map_has}

-- Each range has a byte, the first begins at this offset or behind it, and each other behind the one before without touching it.
abbrev pub AreRuns : ℕ → List Spot → Type 0
AreRuns from [] = Unit {0}
AreRuns from (spot ∷ spots) = (from ≤ spot.at) × (0 < spot.len) × AreRuns (spot.at + spot.len + 1) spots

-- The same of ranges that may touch.
abbrev pub AreBehind : ℕ → List Spot → Type 0
AreBehind from [] = Unit {0}
AreBehind from (spot ∷ spots) = (from ≤ spot.at) × (0 < spot.len) × AreBehind (spot.at + spot.len) spots

pub runs_of_pieces : (from : ℕ) (pieces : List Piece) → AreApart from pieces → AreRuns from (map spot_of pieces)
runs_of_pieces from [] are = tt
runs_of_pieces from (p ∷ pieces) are = (are.0, are.1, runs_of_pieces (p.at + length p.bytes + 1) pieces are.2)

ranges_of_parts : (from : ℕ) (parts : List Piece) → AreDisjoint from parts → AreBehind from (map spot_of parts)
ranges_of_parts from [] are = tt
ranges_of_parts from (p ∷ parts) are = (are.0, are.1, ranges_of_parts (p.at + length p.bytes) parts are.2)

-- ---- ranges that are joined

eqb_is : (m n : ℕ) → (m == n) ≡ true → m ≡ n
eqb_is m n h = grind (arith, nat_tests)

eqb_not : (m n : ℕ) → (m == n) ≡ false → m ≤ n → m + 1 ≤ n
eqb_not m n h low = grind (arith, nat_tests)

joined_runs : (from : ℕ) (spot : Spot) (spots : List Spot) → from ≤ spot.at → 0 < spot.len → AreBehind (spot.at + spot.len) spots → AreRuns from (joined_behind spot spots)
joined_runs from spot [] low some rest = (low, some, tt)
joined_runs from spot (other ∷ spots) low some rest =
    by (joined_runs from (joined spot other) spots) (joined_runs (spot.at + spot.len + 1) other spots) (spot.at + spot.len == other.at) refl
  where
    by : (from ≤ spot.at → 0 < spot.len + other.len → AreBehind (spot.at + (spot.len + other.len)) spots → AreRuns from (joined_behind (joined spot other) spots))
        → (spot.at + spot.len + 1 ≤ other.at → 0 < other.len → AreBehind (other.at + other.len) spots → AreRuns (spot.at + spot.len + 1) (joined_behind other spots))
        → (b : Bool) → (spot.at + spot.len == other.at) ≡ b
        → AreRuns from (cond b (joined_behind (joined spot other) spots) (spot ∷ joined_behind other spots))
    by longer later true touch =
        let same : spot.at + spot.len ≡ other.at = eqb_is _ _ touch in
        let end : other.at + other.len ≡ spot.at + (spot.len + other.len) = omega arith in
        longer low (omega arith) (subst (λ n. AreBehind n spots) end rest.2)
    by longer later false no_touch = (low, some, later (eqb_not _ _ no_touch rest.0) rest.1 rest.2)

has_joined : (o : ℕ) (spot other : Spot) → spot.at + spot.len ≡ other.at → has_offset o (joined spot other) ≡ (has_offset o spot || has_offset o other)
has_joined o spot other same = grind (arith, nat_tests)

joined_has : (o : ℕ) (spot : Spot) (spots : List Spot) → list_any (has_offset o) (joined_behind spot spots) ≡ (has_offset o spot || list_any (has_offset o) spots)
joined_has o spot [] = refl
joined_has o spot (other ∷ spots) =
    by (joined_has o (joined spot other) spots) (joined_has o other spots) (spot.at + spot.len == other.at) refl
  where
    by : (list_any (has_offset o) (joined_behind (joined spot other) spots) ≡ (has_offset o (joined spot other) || list_any (has_offset o) spots))
        → (list_any (has_offset o) (joined_behind other spots) ≡ (has_offset o other || list_any (has_offset o) spots))
        → (b : Bool) → (spot.at + spot.len == other.at) ≡ b
        → list_any (has_offset o) (cond b (joined_behind (joined spot other) spots) (spot ∷ joined_behind other spots))
        ≡ (has_offset o spot || (has_offset o other || list_any (has_offset o) spots))
    by longer later true touch =
        longer ∙ ap (λ b. b || list_any (has_offset o) spots) (has_joined o spot other (eqb_is _ _ touch))
        ∙ or_assoc (has_offset o spot) (has_offset o other) (list_any (has_offset o) spots)
    by longer later false no_touch = ap (λ b. has_offset o spot || b) later

-- ---- runs are the same where they have the same bytes

low_out : (o from : ℕ) (spots : List Spot) → AreRuns from spots → o < from → list_any (has_offset o) spots ≡ false
low_out o from [] are low = refl
low_out o from (spot ∷ spots) are low =
    let none : has_offset o spot ≡ false = before o spot (omega (arith, are.0)) in
    let rest : list_any (has_offset o) spots ≡ false = low_out o (spot.at + spot.len + 1) spots are.2 (omega (arith, are.0)) in
    ap (λ b. b || list_any (has_offset o) spots) none ∙ rest
  where
    before : (o : ℕ) (spot : Spot) → o < spot.at → has_offset o spot ≡ false
    before o spot low = grind (arith, nat_tests)

has_first : (spot : Spot) → 0 < spot.len → has_offset spot.at spot ≡ true
has_first spot some = grind (arith, nat_tests)

pub has_in : (o : ℕ) (spot : Spot) → spot.at ≤ o → o < spot.at + spot.len → has_offset o spot ≡ true
has_in o spot low high = grind (arith, nat_tests)

has_past : (o : ℕ) (spot : Spot) → spot.at + spot.len ≤ o → has_offset o spot ≡ false
has_past o spot past = grind (arith, nat_tests)

out_past : (o : ℕ) (spot : Spot) → has_offset o spot ≡ true → o < spot.at + spot.len + 1
out_past o spot h = grind (arith, nat_tests)

-- the first run of one list begins no later than that of another with the same bytes
first_low : (from : ℕ) (one other : Spot) (ones others : List Spot) → AreRuns from (one ∷ ones) → 0 < other.len
    → ((o : ℕ) → list_any (has_offset o) (one ∷ ones) ≡ list_any (has_offset o) (other ∷ others)) → one.at ≤ other.at
first_low from one other ones others are some same = by (cases_lt other.at one.at)
  where
    by : (other.at < one.at) ⊎ (one.at ≤ other.at) → one.at ≤ other.at
    by (inr low) = low
    by (inl high) = absurd (never (list_any (has_offset other.at) (one ∷ ones))
        (same other.at ∙ ap (λ b. b || list_any (has_offset other.at) others) (has_first other some))
        (low_out other.at one.at (one ∷ ones) (omega arith, are.1, are.2) high))

-- it is no longer than the other where both begin at one offset
first_short : (one other : Spot) (ones others : List Spot) → one.at ≡ other.at → AreRuns (other.at + other.len + 1) others
    → ((o : ℕ) → list_any (has_offset o) (one ∷ ones) ≡ list_any (has_offset o) (other ∷ others)) → one.len ≤ other.len
first_short one other ones others at are same = by (cases_lt other.len one.len)
  where
    by : (other.len < one.len) ⊎ (one.len ≤ other.len) → one.len ≤ other.len
    by (inr short) = short
    by (inl long) =
        let o = other.at + other.len in
        absurd (never (list_any (has_offset o) (one ∷ ones))
        (ap (λ b. b || list_any (has_offset o) ones) (has_in o one (omega (arith, at)) (omega (arith, at))))
        (same o ∙ ap (λ b. b || list_any (has_offset o) others) (has_past o other (omega arith)) ∙ low_out o (other.at + other.len + 1) others are (omega arith)))

spot_at : ℕ → ℕ → Spot
spot_at at len = record { at = at; len = len }

same_spot : (one other : Spot) → one.at ≡ other.at → one.len ≡ other.len → one ≡ other
unfolding spot_at
same_spot one other at len = ap (λ n. spot_at n one.len) at ∙ ap (λ n. spot_at other.at n) len

nothing : false ≡ true → ⊥
nothing h = cc

runs_alike : (m n : ℕ) (ones others : List Spot) → AreRuns m ones → AreRuns n others
    → ((o : ℕ) → list_any (has_offset o) ones ≡ list_any (has_offset o) others) → ones ≡ others
runs_alike m n [] [] are those same = refl
runs_alike m n [] (other ∷ others) are those same =
    absurd (nothing (same other.at ∙ ap (λ b. b || list_any (has_offset other.at) others) (has_first other those.1)))
runs_alike m n (one ∷ ones) [] are those same =
    absurd (nothing (sym (same one.at) ∙ ap (λ b. b || list_any (has_offset one.at) ones) (has_first one are.1)))
runs_alike m n (one ∷ ones) (other ∷ others) are those same =
    ap (λ s. s ∷ ones) is ∙ ap (λ l. other ∷ l) (runs_alike (one.at + one.len + 1) (other.at + other.len + 1) ones others are.2 those.2 (λ o. tail o (has_offset o one) refl))
  where
    at : one.at ≡ other.at
    at = omega (arith, first_low m one other ones others are those.1 same, first_low n other one others ones those are.1 (λ o. sym (same o)))

    len : one.len ≡ other.len
    len = omega (arith, first_short one other ones others at those.2 same, first_short other one others ones (sym at) are.2 (λ o. sym (same o)))

    is : one ≡ other
    is = same_spot one other at len

    tail : (o : ℕ) (b : Bool) → has_offset o one ≡ b → list_any (has_offset o) ones ≡ list_any (has_offset o) others
    tail o true has =
        let low : o < one.at + one.len + 1 = out_past o one has in
        low_out o (one.at + one.len + 1) ones are.2 low ∙ sym (low_out o (other.at + other.len + 1) others those.2 (omega (arith, at, len)))
    tail o false has_none =
        sym (ap (λ b. b || list_any (has_offset o) ones) has_none) ∙ same o
        ∙ ap (λ b. b || list_any (has_offset o) others) (ap (λ s. has_offset o s) (sym is) ∙ has_none)

-- ---- all ranges of the parts

begins_behind : (from : ℕ) (spots : List Spot) (j : ℕ) (d : Spot) → AreRuns from spots → j < length spots → from ≤ (get_or spots j d).at
begins_behind from [] j d are inside = absurd (omega arith)
begins_behind from (spot ∷ spots) zero d are inside = are.0
begins_behind from (spot ∷ spots) (suc j) d are inside =
    let first : from ≤ spot.at = are.0 in
    let later : spot.at + spot.len + 1 ≤ (get_or spots j d).at = begins_behind (spot.at + spot.len + 1) spots j d are.2 (omega arith) in
    omega arith

pub runs_apart : (from : ℕ) (spots : List Spot) → AreRuns from spots → StandApart spots
runs_apart from [] are i j d before inside = absurd (omega arith)
runs_apart from (spot ∷ spots) are i zero d before inside = absurd (omega arith)
runs_apart from (spot ∷ spots) are zero (suc j) d before inside =
    let behind : spot.at + spot.len + 1 ≤ (get_or spots j d).at = begins_behind (spot.at + spot.len + 1) spots j d are.2 (omega arith) in
    omega arith
runs_apart from (spot ∷ spots) are (suc i) (suc j) d before inside = runs_apart (spot.at + spot.len + 1) spots are.2 i j d (omega arith) (omega arith)

-- the ranges so far, and the last one joined with the parts that are left, are all parts joined
pub record AreListedTo (m : FinMap nat_cmp ℕ) (spots : List Spot) (last : Option Spot) (left : List Piece) : Type 0 where
  pub parts : List Piece
  pub are : ArePartsOf m parts
  pub whole : spots ++ joined_from last (map spot_of left) ≡ joined_all (map spot_of parts)

-- at the end they are those of the pieces
record AreAll (m : FinMap nat_cmp ℕ) (spots : List Spot) : Type 0 where
  runs : AreRuns 0 spots
  has : (o : ℕ) → written_in m o ≡ list_any (has_offset o) spots

all_of : (m : FinMap nat_cmp ℕ) (parts : List Piece) → ArePartsOf m parts → AreAll m (joined_all (map spot_of parts))
all_of m [] are = record {
  runs = tt;
  has = λ o. subst (λ x. is_some (get x o) ≡ list_any (has_offset o) []) are.whole (map_has [] o);
}
all_of m (p ∷ parts) are = record {
  runs = joined_runs 0 (spot_of p) (map spot_of parts) are.disjoint.0 are.disjoint.1 (ranges_of_parts (p.at + length p.bytes) parts are.disjoint.2);
  has = λ o.
      subst (λ x. is_some (get x o) ≡ list_any (has_offset o) (map spot_of (p ∷ parts))) are.whole (map_has (p ∷ parts) o)
      ∙ sym (joined_has o (spot_of p) (map spot_of parts));
}

ended : (m : FinMap nat_cmp ℕ) (spots all : List Spot) (last : Option Spot) (left : List Piece) → left ≡ [] → all ≡ spots ++ joined_from last []
    → AreListedTo m spots last left → AreAll m all
ended m spots all last left none put listed =
    subst (AreAll m) (sym (put ∙ ap (λ l. spots ++ joined_from last (map spot_of l)) (sym none) ∙ listed.whole)) (all_of m listed.parts listed.are)

pub spots_end : (m : FinMap nat_cmp ℕ) (spots all : List Spot) (last : Option Spot) (left : List Piece) → left ≡ [] → all ≡ spots ++ joined_from last []
    → AreListedTo m spots last left → AreSpotsOf (written_in m) all
spots_end m spots all last left none put listed =
    let end = ended m spots all last left none put listed in
    record { apart = runs_apart 0 all end.runs; whole = end.has }

pub pieces_end : (m : FinMap nat_cmp ℕ) (spots all : List Spot) (last : Option Spot) (left : List Piece) → left ≡ [] → all ≡ spots ++ joined_from last []
    → AreListedTo m spots last left → (pieces : List Piece) → ArePiecesOf m pieces → all ≡ map spot_of pieces
pieces_end m spots all last left none put listed pieces are =
    let end = ended m spots all last left none put listed in
    runs_alike 0 0 all (map spot_of pieces) end.runs (runs_of_pieces 0 pieces are.apart)
    (λ o. sym (end.has o) ∙ sym (subst (λ x. is_some (get x o) ≡ written_in m o) (sym are.whole) refl) ∙ map_has pieces o)

-- a range that is put behind a list, and one that is not touched
pub put_behind : (old new : List Spot) (spot part : Spot) → new ≡ old ++ joined_from (Some spot) [] → (spot.at + spot.len == part.at) ≡ false
    → IsJoined (Some spot) part part old new
put_behind old new spot part put apart left =
    ap (λ l. l ++ joined_behind part left) put
    ∙ append_assoc old (spot ∷ []) (joined_behind part left)
    ∙ ap (λ b. old ++ cond b (joined_behind (joined spot part) left) (spot ∷ joined_behind part left)) (sym apart)

pub made_longer : (old : List Spot) (spot part : Spot) → (spot.at + spot.len == part.at) ≡ true → IsJoined (Some spot) part (joined spot part) old old
made_longer old spot part touch left = ap (λ b. old ++ cond b (joined_behind (joined spot part) left) (spot ∷ joined_behind part left)) (sym touch)

pub ruleset joins = (put_behind, made_longer)
