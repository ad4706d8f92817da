-- The pieces of a map are made of its entries from the last to the first: a byte before a piece that begins right behind it joins that piece,
-- and each other byte is a piece of its own.
use Rattle.std.proofs.Common.{◌≡◌, ℕ, zero, suc, ◌+◌, ◌<◌, ◌≤◌, ◌≢◌, ◌==◌, ◌&&◌, Bool, true, false, cond, not, is_some, T, List, [], ◌∷◌, map, length, refl, ap, sym, ◌∙◌, subst, true≢false, arith}
use Rattle.std.specs.Prelude.{Some, None}
use Rattle.std.specs.List.{count_by}
use Rattle.std.specs.Ordering.{eq_by_cmp, is_lt, nat_cmp}
use Rattle.std.specs.Cmp.{nat_cmp_total, unsigned_tied}
use Rattle.std.specs.FinMap.{FinMap, entries, entries_sorted, find, from_entries, get, get-entries, get-from_entries, get-insert, insert, is_sorted, nat_cmp-IsAntisymmetric, same_map}
use Rattle.std.proofs.lemmas.Bool.{eqb-true, eqb-false}
use Rattle.std.proofs.lemmas.Bool.Decides.{nat_tests}
use Rattle.std.proofs.lemmas.List.Sums.{sum_by-cons}
use Rattle.write_cache.specs.Cache.{with_bytes}
use Rattle.write_cache.specs.Pieces.{AreApart, Piece, map_of}
use Rattle.write_cache.proofs.CacheLaws.{eqb-other}
use Rattle.lookup_bounds.specs.Pieces.{PiecesLaw}
use Rattle.lookup_bounds.specs.Work.{begins_run, runs_in}

-- ---- entries in rising order

-- the first key is this number or more, and each other is more than the one before
abbrev pub AreRising : ℕ → List (ℕ × ℕ) → Type 0
AreRising from [] = Unit {0}
AreRising from (e ∷ es) = (from ≤ e.0) × AreRising (e.0 + 1) es

first_true : (a b : Bool) → T (a && b) → T a
first_true true b p = tt
first_true false b p = absurd p

second_true : (a b : Bool) → T (a && b) → T b
second_true true b p = p
second_true false b p = absurd p

is_true : (b : Bool) → T b → b ≡ true
is_true true p = refl
is_true false p = absurd p

before : (a b : ℕ) → is_lt (nat_cmp a b) ≡ true → a + 1 ≤ b
before a b h = grind (arith, nat_tests)

rising_behind : (e : ℕ × ℕ) (es : List (ℕ × ℕ)) → T (is_sorted nat_cmp (e ∷ es)) → AreRising (e.0 + 1) es
rising_behind e [] sorted = tt
rising_behind e (f ∷ es) sorted = (
  before e.0 f.0 (is_true (is_lt (nat_cmp e.0 f.0)) (first_true _ _ (first_true _ _ sorted))),
  rising_behind f es (second_true _ _ sorted),
)

rising : (es : List (ℕ × ℕ)) → T (is_sorted nat_cmp es) → AreRising 0 es
rising [] sorted = tt
rising (e ∷ es) sorted = (omega arith, rising_behind e es sorted)

-- a key before the first is not found, and one behind the first is sought among the others
missed : (q from : ℕ) (es : List (ℕ × ℕ)) → AreRising from es → q < from → find nat_cmp q es ≡ None
missed q from [] up low = refl
missed q from (e ∷ es) up low =
    let begin : from ≤ e.0 = up.0 in
    ap (λ b. cond b (Some e.1) (find nat_cmp q es)) (unsigned_tied q e.0 ∙ eqb-other q e.0 (omega arith))
    ∙ missed q (e.0 + 1) es up.1 (omega arith)

passed : (q : ℕ) (e : ℕ × ℕ) (es : List (ℕ × ℕ)) → e.0 < q → find nat_cmp q (e ∷ es) ≡ find nat_cmp q es
passed q e es high = ap (λ b. cond b (Some e.1) (find nat_cmp q es)) (unsigned_tied q e.0 ∙ eqb-other q e.0 (omega arith))

-- ---- the pieces

abbrev pub piece : ℕ → List ℕ → Piece
piece at bytes = record { at = at; bytes = bytes }

-- a byte before pieces: it joins the first where that begins right behind it, and else is a piece of its own
abbrev pub put_first : Bool → ℕ → ℕ → Piece → List Piece → List Piece
put_first true at byte p ps = piece at (byte ∷ p.bytes) ∷ ps
put_first false at byte p ps = piece at (byte ∷ []) ∷ p ∷ ps

abbrev pub joined : ℕ → ℕ → List Piece → List Piece
joined at byte [] = piece at (byte ∷ []) ∷ []
joined at byte (p ∷ ps) = put_first (p.at == at + 1) at byte p ps

-- the pieces of entries
abbrev pub pieces_from : List (ℕ × ℕ) → List Piece
pieces_from [] = []
pieces_from (e ∷ es) = joined e.0 e.1 (pieces_from es)

-- they are apart
joined_apart : (from at byte : ℕ) (ps : List Piece) → from ≤ at → AreApart (at + 1) ps → AreApart from (joined at byte ps)
joined_apart from at byte [] low apart = (low, omega arith, tt)
joined_apart from at byte (p ∷ ps) low apart =
    let behind : at + 1 ≤ p.at = apart.0 in
    elim (p.at == at + 1) as (λ b. (p.at == at + 1) ≡ b → AreApart from (put_first b at byte p ps)) [
      | true ↦ λ e. let next : p.at ≡ at + 1 = eqb-true _ _ e in
          (low, omega arith, subst (λ n. AreApart n ps) (omega arith) apart.2)
      | false ↦ λ e. let other : p.at ≢ at + 1 = eqb-false _ _ e in
          (low, omega arith, (omega arith, apart.1, apart.2))
    ] refl

made_apart : (from : ℕ) (es : List (ℕ × ℕ)) → AreRising from es → AreApart from (pieces_from es)
made_apart from [] up = tt
made_apart from (e ∷ es) up = joined_apart from e.0 e.1 (pieces_from es) up.0 (made_apart (e.0 + 1) es up.1)

-- two entries are put in either order
shadowed_or_not : {A : Type 0} (a b : Bool) (x y z : A) → (a ≡ true → b ≡ true → ⊥) → cond a x (cond b y z) ≡ cond b y (cond a x z)
shadowed_or_not true true x y z apart = absurd (apart refl refl)
shadowed_or_not true false x y z apart = refl
shadowed_or_not false b x y z apart = refl

not_both : (q k at : ℕ) → k ≢ at → eq_by_cmp nat_cmp q k ≡ true → eq_by_cmp nat_cmp q at ≡ true → ⊥
not_both q k at other a b =
    let at_k : q ≡ k = eqb-true q k (sym (unsigned_tied q k) ∙ a) in
    let at_at : q ≡ at = eqb-true q at (sym (unsigned_tied q at) ∙ b) in
    other (sym at_k ∙ at_at)

insert_either : (m : FinMap nat_cmp ℕ) (k v at b : ℕ) → k ≢ at → insert (insert m k v) at b ≡ insert (insert m at b) k v
insert_either m k v at b other = same_map nat_cmp_total nat_cmp-IsAntisymmetric _ _ (λ q.
    get-insert nat_cmp_total (insert m k v) at b q
    ∙ ap (cond (eq_by_cmp nat_cmp q at) (Some b)) (get-insert nat_cmp_total m k v q)
    ∙ shadowed_or_not (eq_by_cmp nat_cmp q at) (eq_by_cmp nat_cmp q k) (Some b) (Some v) (get m q) (λ x y. not_both q k at other y x)
    ∙ sym (get-insert nat_cmp_total (insert m at b) k v q
    ∙ ap (cond (eq_by_cmp nat_cmp q k) (Some v)) (get-insert nat_cmp_total m at b q)))

-- a byte before a run is put before it or after it
insert_before : (m : FinMap nat_cmp ℕ) (k v at : ℕ) (bs : List ℕ) → k < at
    → with_bytes (insert m k v) at bs ≡ insert (with_bytes m at bs) k v
unfolding with_bytes
insert_before m k v at [] low = refl
insert_before m k v at (b ∷ bs) low =
    ap (λ n. with_bytes n (at + 1) bs) (insert_either m k v at b (omega arith)) ∙ insert_before (insert m at b) k v (at + 1) bs (omega arith)

joined_map : (at byte : ℕ) (ps : List Piece) → map_of (joined at byte ps) ≡ insert (map_of ps) at byte
unfolding map_of with_bytes
joined_map at byte [] = refl
joined_map at byte (p ∷ ps) =
    elim (p.at == at + 1) as (λ b. (p.at == at + 1) ≡ b → map_of (put_first b at byte p ps) ≡ insert (map_of (p ∷ ps)) at byte) [
      | true ↦ λ e. let next : p.at ≡ at + 1 = eqb-true _ _ e in
          insert_before (map_of ps) at byte (at + 1) p.bytes (omega arith)
          ∙ ap (λ n. insert (with_bytes (map_of ps) n p.bytes) at byte) (sym next)
      | false ↦ λ e. refl
    ] refl

-- they make the map of the entries
made_map : (es : List (ℕ × ℕ)) → map_of (pieces_from es) ≡ from_entries es
unfolding map_of
made_map [] = refl
made_map (e ∷ es) = joined_map e.0 e.1 (pieces_from es) ∙ ap (λ m. insert m e.0 e.1) (made_map es)

whole_map : (m : FinMap nat_cmp ℕ) → map_of (pieces_from (entries m)) ≡ m
whole_map m = made_map (entries m) ∙ same_map nat_cmp_total nat_cmp-IsAntisymmetric _ _ (λ q.
    get-from_entries nat_cmp_total (entries m) q ∙ sym (get-entries m q))

-- ---- how many there are

-- how many pieces a byte before some makes of them: no more where the first begins right behind it, and else one more
abbrev pub IsOneMore : ℕ → ℕ → ℕ → List Piece → Type 0
IsOneMore at byte next ps = length (joined at byte ps) ≡ cond (next == at + 1) (length ps) (suc (length ps))

count_first : (at byte : ℕ) (p : Piece) (ps : List Piece) → IsOneMore at byte p.at (p ∷ ps)
count_first at byte p ps =
    elim (p.at == at + 1) as (λ b. length (put_first b at byte p ps) ≡ cond b (suc (length ps)) (suc (suc (length ps)))) [
      | true ↦ refl
      | false ↦ refl
    ]

count_joined : (at byte next value : ℕ) (ps : List Piece) → IsOneMore at byte next (joined next value ps)
count_joined at byte next value [] = count_first at byte (piece next (value ∷ [])) []
count_joined at byte next value (p ∷ ps) =
    elim (p.at == next + 1) as (λ b. IsOneMore at byte next (put_first b next value p ps)) [
      | true ↦ count_first at byte (piece next (value ∷ p.bytes)) ps
      | false ↦ count_first at byte (piece next (value ∷ [])) (p ∷ ps)
    ]

-- where no byte stands before an offset, a run begins there
begins_alone : (m : FinMap nat_cmp ℕ) (at : ℕ) → ((q : ℕ) → q < at → get m q ≡ None) → begins_run m at ≡ true
begins_alone m zero none = refl
begins_alone m (suc q) none = ap (λ o. not (is_some o)) (none q (omega arith))

-- at the key behind another entry a run begins unless it is the next offset
begins_behind : (m : FinMap nat_cmp ℕ) (e : ℕ × ℕ) (at : ℕ) (es : List (ℕ × ℕ)) → AreRising at es → e.0 < at
    → ((q : ℕ) → e.0 ≤ q → get m q ≡ find nat_cmp q (e ∷ es)) → begins_run m at ≡ not (at == e.0 + 1)
begins_behind m e zero es up low here = absurd (omega arith)
begins_behind m e (suc q) es up low here =
    ap (λ o. not (is_some o)) (here q (omega arith) ∙ ap (cond (eq_by_cmp nat_cmp q e.0) (Some e.1)) (missed q (suc q) es up (omega arith)))
    ∙ ap (λ b. not (is_some (cond b (Some e.1) None))) (unsigned_tied q e.0 ∙ one_on q e.0)
    ∙ alone (suc q == e.0 + 1) e.1
  where
    one_on : (a b : ℕ) → (a == b) ≡ (suc a == b + 1)
    one_on a b = grind (arith, nat_tests)

    alone : (b : Bool) (x : ℕ) → not (is_some (cond b (Some x) None)) ≡ not b
    alone true x = refl
    alone false x = refl

counted : (b : Bool) (l c : ℕ) → l ≡ suc c → cond b l (suc l) ≡ suc (cond (not b) 1 0 + c)
counted true l c e = omega arith
counted false l c e = omega arith

counted_first : (b : Bool) (c : ℕ) → b ≡ true → suc c ≡ cond b 1 0 + c
counted_first true c e = omega arith
counted_first false c e = absurd (true≢false (sym e))

-- from an entry on there is a piece, and one more at each key behind it where a run begins
count_behind : (m : FinMap nat_cmp ℕ) (e : ℕ × ℕ) (es : List (ℕ × ℕ)) → AreRising (e.0 + 1) es
    → ((q : ℕ) → e.0 ≤ q → get m q ≡ find nat_cmp q (e ∷ es))
    → length (pieces_from (e ∷ es)) ≡ suc (count_by (begins_run m) (map (λ x. x.0) es))
count_behind m e [] up here = refl
count_behind m e (f ∷ es) up here =
    let high : e.0 + 1 ≤ f.0 = up.0 in
    let rest : length (pieces_from (f ∷ es)) ≡ suc (count_by (begins_run m) (map (λ x. x.0) es)) =
    count_behind m f es up.1 (λ q low. here q (omega arith) ∙ passed q e (f ∷ es) (omega arith)) in
    let begins : begins_run m f.0 ≡ not (f.0 == e.0 + 1) =
    begins_behind m e f.0 (f ∷ es) (omega arith, up.1) (omega arith) here in
    count_joined e.0 e.1 f.0 f.1 (pieces_from es)
    ∙ counted (f.0 == e.0 + 1) _ _ rest
    ∙ ap (λ b. suc (cond b 1 0 + count_by (begins_run m) (map (λ x. x.0) es))) (sym begins)
    ∙ ap suc (sym (sum_by-cons (λ x. cond (begins_run m x) 1 0) f.0 (map (λ x. x.0) es)))

count_all : (m : FinMap nat_cmp ℕ) (es : List (ℕ × ℕ)) → AreRising 0 es → ((q : ℕ) → get m q ≡ find nat_cmp q es)
    → length (pieces_from es) ≡ count_by (begins_run m) (map (λ x. x.0) es)
count_all m [] up here = refl
count_all m (e ∷ es) up here =
    let begins : begins_run m e.0 ≡ true =
    begins_alone m e.0 (λ q low. here q ∙ missed q e.0 (e ∷ es) (omega arith, up.1) low) in
    count_behind m e es up.1 (λ q low. here q)
    ∙ counted_first (begins_run m e.0) (count_by (begins_run m) (map (λ x. x.0) es)) begins
    ∙ sym (sum_by-cons (λ x. cond (begins_run m x) 1 0) e.0 (map (λ x. x.0) es))

-- each map has pieces, as many as runs begin in it
pub have_pieces : PiecesLaw
unfolding runs_in
have_pieces m =
    let up : AreRising 0 (entries m) = rising (entries m) (entries_sorted m) in
    let count : length (pieces_from (entries m)) ≡ runs_in m = count_all m (entries m) up (get-entries m) in
    record {
      pieces = pieces_from (entries m);
      are = record { apart = made_apart 0 (entries m) up; whole = whole_map m };
      count = count;
    }
