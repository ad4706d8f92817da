-- What stands after runs that touch are joined.
use Rattle.std.proofs.Common.{subst, ◌≡◌, ℕ, ◌+◌, ◌<◌, ◌≤◌, ◌≢◌, inl, inr, Bool, true, false, List, [], ◌∷◌, ◌++◌, length, refl, sym, ap, ◌∙◌, arith, length-append}
use Rattle.std.specs.Prelude.{Option, Some, None, IsSome, IfSome, is_some}
use Rattle.std.specs.Ordering.{nat_cmp}
use Rattle.std.specs.List.Sorted.{IsStrictlySortedBy}
use Rattle.std.specs.Map.{keys_of, lookup}
use Rattle.std.specs.BTreeMap.{is_at}
use Rattle.std.proofs.lemmas.Bool.{cases_lt}
use Rattle.write_cache.specs.Pieces.{AreApart, AreDisjoint}
use Rattle.write_cache.specs.Runs.{pieces_of, AreKept, HoldStill, run_at, IsFirst, NoneBehind, AreSame, Replaces, Appends, Grows, IsGrown, AreApartBefore, JoinsAll}
use Rattle.write_cache.proofs.RunLaws.{same_or_not, run_at_head, run_at_tail, disjoint_low, disjoint_pair, ends}
use Rattle.write_cache.proofs.PutLaws.{none_some, same_runs, append_hold}

pub still : (m : List (ℕ × List ℕ)) → AreKept m → HoldStill m m
still m kept = record { kept = kept; map = refl }

pub still_on : (m l n : List (ℕ × List ℕ)) → HoldStill m l → HoldStill l n → HoldStill m n
still_on m l n first second = record { kept = second.kept; map = second.map ∙ first.map }

-- a run that is there, and where it ends
record Ending (m : List (ℕ × List ℕ)) (begin end : ℕ) : Type 0 where
  pub bytes : List ℕ
  pub here : run_at m begin ≡ Some bytes
  pub end_is : end ≡ begin + length bytes

not_none : (o : Option (List ℕ)) → o ≡ None → IsSome o → ⊥
not_none o none some = let not_some : false ≡ true = subst IsSome none some in cc

ending : (m : List (ℕ × List ℕ)) (begin end : ℕ) → IsSome (run_at m begin) → IfSome (run_at m begin) (λ bytes. end ≡ begin + length bytes) → Ending m begin end
ending m begin end = elim (run_at m begin) as (λ o. run_at m begin ≡ o → IsSome o → IfSome o (λ bytes. end ≡ begin + length bytes) → Ending m begin end) [
  | None ↦ λ e some is. absurd (not_none None refl some)
  | Some bytes ↦ λ e some is. record { bytes = bytes; here = e; end_is = is }
] refl

-- a run was taken out, its bytes were put behind those of another, and it was removed
pub appended : (m out put n : List (ℕ × List ℕ)) (begin end : ℕ) (more bytes : List ℕ) → begin < end → run_at m end ≡ Some more → ((k : ℕ) → k ≢ end → run_at out k ≡ run_at m k) → bytes ≡ more → Replaces out put begin (λ base. base ++ bytes) → run_at n end ≡ None → ((k : ℕ) → k ≢ end → run_at n k ≡ run_at put k) → Appends m n begin end
appended m out put n begin end more bytes order taken others same puts gone stay =
    let apart : begin ≢ end = omega arith in
    record {
      here = λ base rest h g. let found : more ≡ rest = let a : run_at m end ≡ Some rest = g in cc in
          stay begin apart ∙ puts.here base (others begin apart ∙ h) ∙ ap (λ x. Some (base ++ x)) (same ∙ found);
      gone = gone;
      others = λ k other elsewhere. stay k elsewhere ∙ puts.others k other ∙ others k elsewhere;
    }

-- one run more is appended to another
pub grow_start : (m : List (ℕ × List ℕ)) (begin end : ℕ) → AreKept m → IsSome (run_at m begin) → IfSome (run_at m begin) (λ bytes. end ≡ begin + length bytes) → Grows m m begin end
grow_start m begin end kept some is =
    let there : Ending m begin end = ending m begin end some is in
    record { bytes = there.bytes; here = there.here; end_is = sym there.end_is; others = λ k bs other h. h; still = still m kept }

pub grow_on : (m l n : List (ℕ × List ℕ)) (begin end ended : ℕ) → Grows m l begin end → IsSome (run_at l end) → IfSome (run_at l end) (λ bytes. ended ≡ end + length bytes) → Appends l n begin end → IsStrictlySortedBy nat_cmp (keys_of n) → Grows m n begin ended
grow_on m l n begin end ended grows some is appended sorted =
    let there : Ending l end ended = ending l end ended some is in
    let size : begin + length grows.bytes ≡ end = grows.end_is in
    let long : length (grows.bytes ++ there.bytes) ≡ length grows.bytes + length there.bytes = length-append grows.bytes there.bytes in
    let reach : ended ≡ end + length there.bytes = there.end_is in
    record {
      bytes = grows.bytes ++ there.bytes;
      here = appended.here grows.bytes there.bytes grows.here there.here;
      end_is = omega arith;
      others = λ k bs other h. elim (same_or_not k end) [
        | inl same ↦ absurd (none_some (run_at n end) bs appended.gone (subst (λ x. run_at n x ≡ Some bs) same h))
        | inr apart ↦ grows.others k bs other (sym (appended.others k other apart) ∙ h)
      ];
      still = still_on m l n grows.still (append_hold l n begin end grows.bytes there.bytes grows.still.kept grows.here there.here grows.end_is appended sorted);
    }

pub grow_err : (m l n : List (ℕ × List ℕ)) (begin end : ℕ) → Grows m l begin end → AreSame l n → IsStrictlySortedBy nat_cmp (keys_of n) → HoldStill m n
grow_err m l n begin end grows same sorted = still_on m l n grows.still (same_runs l n grows.still.kept sorted same)

-- a run has a byte, and ends at an offset of 64 bits
pub end_behind : (m : List (ℕ × List ℕ)) (begin end : ℕ) → AreKept m → IsSome (run_at m begin) → IfSome (run_at m begin) (λ bytes. end ≡ begin + length bytes) → (begin < end) × (end ≤ 18446744073709551615)
end_behind m begin end kept some is =
    let there : Ending m begin end = ending m begin end some is in
    let reach : begin + length there.bytes ≤ 18446744073709551615 = ends m 18446744073709551615 begin there.bytes kept.1 there.here in
    let size : (0 ≤ begin) × (0 < length there.bytes) = disjoint_low m 0 begin there.bytes kept.0 there.here in
    let is_end : end ≡ begin + length there.bytes = there.end_is in
    (omega arith, omega arith)

-- what a search for a run says
pub key_there : (m : List (ℕ × List ℕ)) (at : ℕ) (found : Bool) → found ≡ is_some (lookup (is_at (nat_cmp at)) m) → found ≡ true → IsSome (run_at m at)
unfolding run_at
key_there m at found is yes_there = sym is ∙ yes_there

none_of : (o : Option (List ℕ)) → is_some o ≡ false → o ≡ None
none_of None is = refl
none_of (Some bytes) is = absurd (let f : true ≡ false = is in cc)

pub grow_end : (m l : List (ℕ × List ℕ)) (begin end : ℕ) (found : Bool) → Grows m l begin end → found ≡ is_some (lookup (is_at (nat_cmp end)) l) → found ≡ false → IsGrown m l begin end
unfolding run_at
grow_end m l begin end found grows is not_there = record {
  grows = grows;
  alone = none_of (lookup (is_at (nat_cmp end)) l) (sym is ∙ not_there);
}

-- the run that grew begins before its end
pub grow_order : (m l : List (ℕ × List ℕ)) (begin end : ℕ) → Grows m l begin end → begin < end
grow_order m l begin end grows =
    let size : (0 ≤ begin) × (0 < length grows.bytes) = disjoint_low l 0 begin grows.bytes grows.still.kept.0 grows.here in
    let is_end : begin + length grows.bytes ≡ end = grows.end_is in
    omega arith

-- the runs up to the end of one that grew touch none behind them
pub apart_start : (m : List (ℕ × List ℕ)) → AreKept m → HoldStill m m × AreApartBefore m 0
apart_start m kept = (still m kept, λ k l bs cs h g low order. absurd (omega arith))

pub apart_on : (m l n : List (ℕ × List ℕ)) (from begin end : ℕ) → HoldStill m l × AreApartBefore l from → IsFirst l from begin → IsGrown l n begin end → HoldStill m n × AreApartBefore n end
apart_on m l n from begin end before is_first grown =
    let grows : Grows l n begin end = grown.grows in
    let kept : AreKept n = grows.still.kept in
    let size : begin + length grows.bytes ≡ end = grows.end_is in
    let first_low : from ≤ begin = is_first.low in (
      still_on m l n before.0 grows.still,
      λ k j bs cs h g low order. elim (same_or_not k begin) [
        | inl same ↦ let there : run_at n begin ≡ Some bs = subst (λ x. run_at n x ≡ Some bs) same h in
            let here : run_at n begin ≡ Some grows.bytes = grows.here in
            let alike : bs ≡ grows.bytes = cc in
            let long : length bs ≡ length grows.bytes = ap length alike in
            let behind : begin + length bs ≤ j = disjoint_pair n 0 kept.0 begin j bs cs there g (omega arith) in
            elim (same_or_not j end) [
              | inl at_end ↦ absurd (none_some (run_at n end) cs grown.alone (subst (λ x. run_at n x ≡ Some cs) at_end g))
              | inr past ↦ omega arith
            ]
        | inr other ↦ let old : run_at l k ≡ Some bs = grows.others k bs other h in
            let under : k < from = elim (cases_lt k from) [
              | inl early ↦ early
              | inr behind ↦ absurd (elim (cases_lt k begin) [
                | inl early ↦ none_some (run_at l k) bs (is_first.first k behind early) old
                | inr late ↦ let behind : begin + length grows.bytes ≤ k = disjoint_pair n 0 kept.0 begin k grows.bytes bs grows.here h (omega arith) in omega arith
              ])
            ] in
            elim (same_or_not j begin) [
              | inl same ↦ let far : k + length bs < begin = before.1 k begin bs is_first.bytes old is_first.here under (omega arith) in omega arith
              | inr apart ↦ before.1 k j bs cs old (grows.others j cs apart g) under order
            ]
      ],
    )

-- a place from which runs begin further behind, and runs of which no two touch
disjoint_up : (runs : List (ℕ × List ℕ)) (from to : ℕ) → AreDisjoint from (pieces_of runs) → ((k : ℕ) (bs : List ℕ) → run_at runs k ≡ Some bs → to ≤ k) → AreDisjoint to (pieces_of runs)
disjoint_up [] from to disjoint low = tt
disjoint_up (run ∷ runs) from to disjoint low = (low run.0 run.1 (run_at_head run runs), disjoint.1, disjoint.2)

apart_all : (runs : List (ℕ × List ℕ)) (from : ℕ) → AreDisjoint from (pieces_of runs) → ((k l : ℕ) (bs cs : List ℕ) → run_at runs k ≡ Some bs → run_at runs l ≡ Some cs → k < l → k + length bs < l) → AreApart from (pieces_of runs)
apart_all [] from disjoint apart = tt
apart_all (run ∷ runs) from disjoint apart =
    let some : 0 < length run.1 = disjoint.1 in
    let above : (k : ℕ) (bs : List ℕ) → run_at runs k ≡ Some bs → run.0 < k = λ k bs h.
    let low : (run.0 + length run.1 ≤ k) × (0 < length bs) = disjoint_low runs (run.0 + length run.1) k bs disjoint.2 h in omega arith in
    let up : (k : ℕ) (bs : List ℕ) → run_at runs k ≡ Some bs → run_at (run ∷ runs) k ≡ Some bs = λ k bs h.
    let over : run.0 < k = above k bs h in
    let other : k ≢ run.0 = omega arith in
    run_at_tail run runs k other ∙ h in (
      disjoint.0,
      some,
      apart_all runs (run.0 + length run.1 + 1)
          (disjoint_up runs (run.0 + length run.1) (run.0 + length run.1 + 1) disjoint.2
          (λ k bs h. let far : run.0 + length run.1 < k = apart run.0 k run.1 bs (run_at_head run runs) (up k bs h) (above k bs h) in omega arith))
          (λ k l bs cs h g order. apart k l bs cs (up k bs h) (up l cs g) order),
    )

pub apart_end : (m l : List (ℕ × List ℕ)) (from : ℕ) → HoldStill m l × AreApartBefore l from → NoneBehind l from → JoinsAll m l
apart_end m l from before none = record {
  kept = before.0.kept;
  joined = (
    apart_all l 0 before.0.kept.0 (λ k j bs cs h g order. elim (cases_lt k from) [
      | inl under ↦ before.1 k j bs cs h g under order
      | inr behind ↦ absurd (none_some (run_at l k) bs (none k behind) h)
    ]),
    before.0.kept.1,
  );
  map = before.0.map;
}
