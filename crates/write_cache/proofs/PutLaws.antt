-- What stands after bytes are put over the runs of a cache.
use Rattle.std.proofs.Common.{subst, ◌≡◌, ℕ, ◌+◌, ◌-◌, ◌<◌, ◌≤◌, ◌≢◌, ◌⊎◌, inl, inr, cond, false, List, [], ◌∷◌, ◌++◌, length, take, drop, get_or, refl, sym, ap, ◌∙◌, arith, length-append, length-take, length-drop}
use Rattle.std.specs.Prelude.{Option, Some, None, IsSome, IfSome, Result, Ok, Err, OnOk, OnErr, is_some}
use Rattle.std.specs.declared.cmp.Ordering.TheVariants.{Less}
use Rattle.std.specs.Ordering.{nat_cmp}
use Rattle.std.specs.Cmp.{nat_cmp_total, unsigned_tied}
use Rattle.std.specs.List.{AllByRecursion}
use Rattle.std.specs.List.Sorted.{IsStrictlySortedBy}
use Rattle.std.specs.Map.{keys_of, lookup}
use Rattle.std.specs.BTreeMap.{is_at}
use Rattle.std.specs.FinMap.{get, same_map, nat_cmp-IsAntisymmetric}
use Rattle.std.proofs.lemmas.Bool.{cases_lt}
use Rattle.std.proofs.lemmas.Bool.Decides.{nat_tests}
use Rattle.std.proofs.lemmas.List.{get_or-take, get_or-drop, take_all, drop_all, take-append-drop, append-nil, get_or_append_left, get_or-append_right}
use Rattle.std.proofs.lemmas.Map.Keys.{sorted_head, sorted_tail}
use Rattle.write_cache.specs.Cache.{with_bytes}
use Rattle.write_cache.specs.Pieces.{AreDisjoint, map_of}
use Rattle.write_cache.specs.Runs.{pieces_of, EndBy, AreKept, Hold, laid_over, run_at, IsLast, Reaches, NoneReaches, AreSame, Replaces, Laid, Meet, JoinsAt, HoldStill, AreCleared, Appends}
use Rattle.write_cache.proofs.CacheLaws.{eqb-other, get-with_bytes_in, get-with_bytes_before, get-with_bytes_behind, get-with_bytes_out, with_bytes_none, with_bytes-append}
use Rattle.write_cache.proofs.RunLaws.{same_or_not, run_at_head, run_at_tail, run_at_none, run_at_cases, disjoint_low, disjoint_pair, ends, get_in, Within, within, get_within}

less-is : (a b : ℕ) → nat_cmp a b ≡ Less → a < b
less-is a b h = grind (arith, nat_tests)

pub none_some : (o : Option (List ℕ)) (x : List ℕ) → o ≡ None → o ≡ Some x → ⊥
none_some o x n s = cc

none_byte : (o : Option ℕ) (x : ℕ) → o ≡ None → o ≡ Some x → ⊥
none_byte o x n s = cc

-- what the runs of a list keep, offset by offset
pub record Spaced (runs : List (ℕ × List ℕ)) : Type 0 where
  pub some : (k : ℕ) (bs : List ℕ) → run_at runs k ≡ Some bs → 0 < length bs
  pub fits : (k : ℕ) (bs : List ℕ) → run_at runs k ≡ Some bs → k + length bs ≤ 18446744073709551615
  pub apart : (k l : ℕ) (bs cs : List ℕ) → run_at runs k ≡ Some bs → run_at runs l ≡ Some cs → k < l → k + length bs ≤ l

key_above : (a : ℕ) (runs : List (ℕ × List ℕ)) (k : ℕ) (bs : List ℕ) → AllByRecursion (λ y. nat_cmp a y ≡ Less) (keys_of runs) → run_at runs k ≡ Some bs → a < k
key_above a [] k bs all h = absurd (none_some (run_at [] k) bs (run_at_none k [] refl) h)
key_above a (run ∷ runs) k bs all h =
    elim (run_at_cases run runs k bs h) [
      | inl s ↦ subst (λ x. a < x) (sym s.0) (less-is a run.0 all.0)
      | inr s ↦ key_above a runs k bs all.1 s.1
    ]

-- in a sorted list, a run behind the first is a run of the whole
later : (run : ℕ × List ℕ) (runs : List (ℕ × List ℕ)) → IsStrictlySortedBy nat_cmp (keys_of (run ∷ runs)) → (k : ℕ) (bs : List ℕ) → run_at runs k ≡ Some bs → (run.0 < k) × (run_at (run ∷ runs) k ≡ Some bs)
later run runs sorted k bs h =
    let above : run.0 < k = key_above run.0 runs k bs (sorted_head nat_cmp run.0 (keys_of runs) sorted) h in
    let other : k ≢ run.0 = omega arith in
    (above, run_at_tail run runs k other ∙ h)

spaced_tail : (run : ℕ × List ℕ) (runs : List (ℕ × List ℕ)) → IsStrictlySortedBy nat_cmp (keys_of (run ∷ runs)) → Spaced (run ∷ runs) → Spaced runs
spaced_tail run runs sorted spaced = record {
  some = λ k bs h. spaced.some k bs (later run runs sorted k bs h).1;
  fits = λ k bs h. spaced.fits k bs (later run runs sorted k bs h).1;
  apart = λ k l bs cs h g. spaced.apart k l bs cs (later run runs sorted k bs h).1 (later run runs sorted l cs g).1;
}

kept_from : (runs : List (ℕ × List ℕ)) (from : ℕ) → IsStrictlySortedBy nat_cmp (keys_of runs) → Spaced runs → ((k : ℕ) (bs : List ℕ) → run_at runs k ≡ Some bs → from ≤ k) → AreDisjoint from (pieces_of runs) × EndBy 18446744073709551615 (pieces_of runs)
kept_from [] from sorted spaced low = (tt, tt)
kept_from (run ∷ runs) from sorted spaced low =
    let here : run_at (run ∷ runs) run.0 ≡ Some run.1 = run_at_head run runs in
    let others : AreDisjoint (run.0 + length run.1) (pieces_of runs) × EndBy 18446744073709551615 (pieces_of runs) =
    kept_from runs (run.0 + length run.1) (sorted_tail nat_cmp run.0 (keys_of runs) sorted) (spaced_tail run runs sorted spaced)
    (λ k bs h. spaced.apart run.0 k run.1 bs here (later run runs sorted k bs h).1 (later run runs sorted k bs h).0) in
    ((low run.0 run.1 here, spaced.some run.0 run.1 here, others.0), (spaced.fits run.0 run.1 here, others.1))

pub kept_spaced : (runs : List (ℕ × List ℕ)) → IsStrictlySortedBy nat_cmp (keys_of runs) → Spaced runs → AreKept runs
kept_spaced runs sorted spaced = kept_from runs 0 sorted spaced (λ k bs h. omega arith)

pub spaced_kept : (runs : List (ℕ × List ℕ)) → AreKept runs → Spaced runs
spaced_kept runs kept = record {
  some = λ k bs h. (disjoint_low runs 0 k bs kept.0 h).1;
  fits = λ k bs h. ends runs 18446744073709551615 k bs kept.1 h;
  apart = λ k l bs cs h g below. disjoint_pair runs 0 kept.0 k l bs cs h g below;
}

-- runs that begin and read alike make one map
pub same_runs : (m n : List (ℕ × List ℕ)) → AreKept m → IsStrictlySortedBy nat_cmp (keys_of n) → ((k : ℕ) → run_at n k ≡ run_at m k) → Hold n (map_of (pieces_of m))
same_runs m n kept sorted same =
    let old : Spaced m = spaced_kept m kept in
    let new : AreKept n = kept_spaced n sorted (record {
      some = λ k bs h. old.some k bs (sym (same k) ∙ h);
      fits = λ k bs h. old.fits k bs (sym (same k) ∙ h);
      apart = λ k l bs cs h g below. old.apart k l bs cs (sym (same k) ∙ h) (sym (same l) ∙ g) below;
    }) in
    record {
      kept = new;
      map = same_map nat_cmp_total nat_cmp-IsAntisymmetric (map_of (pieces_of n)) (map_of (pieces_of m)) (λ q. elim (within n 0 new.0 q) [
        | inl w ↦ get_within n 0 new.0 q w ∙ sym (get_in m 0 kept.0 w.at w.bytes q (sym (same w.at) ∙ w.here) w.low w.high)
        | inr none ↦ elim (within m 0 kept.0 q) [
          | inl w ↦ absurd (none_byte (get (map_of (pieces_of n)) q) (get_or w.bytes (q - w.at) 0) none (get_in n 0 new.0 w.at w.bytes q (same w.at ∙ w.here) w.low w.high))
          | inr none_too ↦ none ∙ sym none_too
        ]
      ]);
    }

-- bytes that stand from an offset on: no run that begins at another or before it ends behind them, and each later
-- one begins at their end or behind it
pub record Tail (m : List (ℕ × List ℕ)) (to end : ℕ) (rest : List ℕ) : Type 0 where
  pub inside : (k : ℕ) (bs : List ℕ) → run_at m k ≡ Some bs → k ≤ to → k + length bs ≤ end + length rest
  pub behind : (k : ℕ) (bs : List ℕ) → run_at m k ≡ Some bs → to < k → end + length rest ≤ k
  pub fits : end + length rest ≤ 18446744073709551615
  pub bytes : (i : ℕ) → i < length rest → get (map_of (pieces_of m)) (end + i) ≡ Some (get_or rest i 0)

tail_last : (m : List (ℕ × List ℕ)) (end k : ℕ) (bytes : List ℕ) → AreKept m → end ≤ 18446744073709551615 → IsLast m end k bytes → Tail m end end (drop (end - k) bytes)
tail_last m end k bytes kept most last =
    let size : length (drop (end - k) bytes) ≡ length bytes - (end - k) = length-drop (end - k) bytes in
    let low : k ≤ end = last.low in
    let reach : k + length bytes ≤ 18446744073709551615 = ends m 18446744073709551615 k bytes kept.1 last.here in
    record {
      inside = λ l bs h upto. elim (cases_lt k l) [
        | inl after ↦ absurd (none_some (run_at m l) bs (last.last l after upto) h)
        | inr before ↦ elim (cases_lt l k) [
          | inl under ↦ let before_it : l + length bs ≤ k = disjoint_pair m 0 kept.0 l k bs bytes h last.here under in omega arith
          | inr over ↦ let same : l ≡ k = omega arith in
              let found : run_at m k ≡ Some bs = subst (λ x. run_at m x ≡ Some bs) same h in
              let here : run_at m k ≡ Some bytes = last.here in
              let alike : bs ≡ bytes = cc in
              let long : length bs ≡ length bytes = ap length alike in
              omega arith
        ]
      ];
      behind = λ l bs h after. let under : k < l = omega arith in
          let before_it : k + length bytes ≤ l = disjoint_pair m 0 kept.0 k l bytes bs last.here h under in omega arith;
      fits = omega arith;
      bytes = λ i below. get_in m 0 kept.0 k bytes (end + i) last.here (omega arith) (omega arith)
          ∙ ap (λ p. Some (get_or bytes p 0)) (omega arith) ∙ ap Some (sym (get_or-drop (end - k) bytes i 0));
    }

-- where no run reaches a range, nothing stands right behind it
tail_apart : (m : List (ℕ × List ℕ)) (at end : ℕ) → at ≤ end → end ≤ 18446744073709551615 → NoneReaches m at end → Tail m end end []
tail_apart m at end order most none = record {
  inside = λ l bs h upto. let apart : l + length bs < at = none l bs h upto in omega arith;
  behind = λ l bs h after. omega arith;
  fits = omega arith;
  bytes = λ i below. absurd (omega arith);
}

-- the last run that begins at an offset or before it is the last to count
tail_upto : (m : List (ℕ × List ℕ)) (end k : ℕ) (bytes rest : List ℕ) → IsLast m end k bytes → Tail m end end rest → Tail m k end rest
tail_upto m end k bytes rest last tail =
    let low : k ≤ end = last.low in
    record {
      inside = λ l bs h upto. tail.inside l bs h (omega arith);
      behind = λ l bs h after. elim (cases_lt end l) [
        | inl past ↦ tail.behind l bs h past
        | inr until ↦ absurd (none_some (run_at m l) bs (last.last l after until) h)
      ];
      fits = tail.fits;
      bytes = tail.bytes;
    }

-- nothing stands from the offset on where a run begins
tail_before : (m : List (ℕ × List ℕ)) (last : ℕ) (behind : List ℕ) → AreKept m → run_at m last ≡ Some behind → 0 < last → Tail m (last - 1) last []
tail_before m last behind kept here after =
    let reach : last + length behind ≤ 18446744073709551615 = ends m 18446744073709551615 last behind kept.1 here in
    record {
      inside = λ l bs h upto. let before_it : l + length bs ≤ last = disjoint_pair m 0 kept.0 l last bs behind h here (omega arith) in omega arith;
      behind = λ l bs h after. omega arith;
      fits = omega arith;
      bytes = λ i below. absurd (omega arith);
    }

-- bytes that are laid over runs: those of the run that begins at s and stand before them, and those that stand behind them
pub record Laying (m : List (ℕ × List ℕ)) (s to at : ℕ) (base bytes rest : List ℕ) : Type 0 where
  pub low : s ≤ at
  pub reach : at ≤ s + length base
  pub some : s < at + length bytes + length rest
  pub before : (k : ℕ) (bs : List ℕ) → run_at m k ≡ Some bs → k < s → k + length bs ≤ s
  pub head : (i : ℕ) → i < at - s → get (map_of (pieces_of m)) (s + i) ≡ Some (get_or base i 0)
  pub tail : Tail m to (at + length bytes) rest

size_laid : (s at : ℕ) (base bytes rest : List ℕ) → s ≤ at → at ≤ s + length base → s + length (take (at - s) base ++ (bytes ++ rest)) ≡ at + length bytes + length rest
size_laid s at base bytes rest low reach =
    omega (arith, length-append (take (at - s) base) (bytes ++ rest), length-append bytes rest, length-take (at - s) base)

-- which run an offset finds
laid_cases : (m n : List (ℕ × List ℕ)) (s end : ℕ) (bytes : List ℕ) → Laid m n s end bytes → (k : ℕ) (bs : List ℕ) → run_at n k ≡ Some bs → ((k ≡ s) × (bs ≡ bytes)) ⊎ (((k < s) ⊎ (end < k)) × (run_at m k ≡ Some bs))
laid_cases m n s end bytes laid k bs h =
    elim (cases_lt k s) [
      | inl under ↦ inr (inl under, sym (laid.stay k (inl under)) ∙ h)
      | inr from ↦ elim (cases_lt s k) [
        | inr upto ↦ let same : k ≡ s = omega arith in
            let found : run_at n s ≡ Some bs = subst (λ x. run_at n x ≡ Some bs) same h in
            let here : run_at n s ≡ Some bytes = laid.here in
            inl (same, cc)
        | inl over ↦ elim (cases_lt end k) [
          | inl past ↦ inr (inr past, sym (laid.stay k (inr past)) ∙ h)
          | inr inside ↦ absurd (none_some (run_at n k) bs (laid.gone k over inside) h)
        ]
      ]
    ]

-- the bytes of the new run are those of the map
byte_laid : (m : List (ℕ × List ℕ)) (s to at : ℕ) (base bytes rest : List ℕ) → Laying m s to at base bytes rest → (q : ℕ) → s ≤ q → q < at + length bytes + length rest → get (with_bytes (map_of (pieces_of m)) at bytes) q ≡ Some (get_or (take (at - s) base ++ (bytes ++ rest)) (q - s) 0)
byte_laid m s to at base bytes rest laying q low high =
    let s_low : s ≤ at = laying.low in
    let reach : at ≤ s + length base = laying.reach in
    let size : length (take (at - s) base) ≡ at - s = omega (arith, length-take (at - s) base) in
    elim (cases_lt q at) [
      | inl before ↦ get-with_bytes_before (map_of (pieces_of m)) at bytes q before
          ∙ ap (get (map_of (pieces_of m))) (omega arith) ∙ laying.head (q - s) (omega arith)
          ∙ ap Some (sym (get_or_append_left (take (at - s) base) (bytes ++ rest) 0 (q - s) (omega arith) ∙ get_or-take (at - s) base (q - s) 0 (omega arith)))
      | inr from ↦ elim (cases_lt q (at + length bytes)) [
        | inl inside ↦ get-with_bytes_in (map_of (pieces_of m)) at bytes q from inside
            ∙ ap Some (sym (get_or-append_right (take (at - s) base) (bytes ++ rest) (at - s) (q - s) 0 size (omega arith)
            ∙ ap (λ p. get_or (bytes ++ rest) p 0) (omega arith)
            ∙ get_or_append_left bytes rest 0 (q - at) (omega arith)))
        | inr behind ↦ get-with_bytes_behind (map_of (pieces_of m)) at bytes q behind
            ∙ ap (get (map_of (pieces_of m))) (omega arith) ∙ laying.tail.bytes (q - (at + length bytes)) (omega arith)
            ∙ ap Some (sym (get_or-append_right (take (at - s) base) (bytes ++ rest) (at - s) (q - s) 0 size (omega arith)
            ∙ ap (λ p. get_or (bytes ++ rest) p 0) (omega arith)
            ∙ get_or-append_right bytes rest (length bytes) (q - at) 0 refl (omega arith)
            ∙ ap (λ p. get_or rest p 0) (omega arith)))
      ]
    ]

spaced_laid : (m n : List (ℕ × List ℕ)) (s to at : ℕ) (base bytes rest whole : List ℕ) → AreKept m → Laying m s to at base bytes rest → s + length whole ≡ at + length bytes + length rest → Laid m n s to whole → Spaced n
spaced_laid m n s to at base bytes rest whole kept laying size laid =
    let old : Spaced m = spaced_kept m kept in
    let low : s ≤ at = laying.low in
    let some : s < at + length bytes + length rest = laying.some in
    let reach : at + length bytes + length rest ≤ 18446744073709551615 = laying.tail.fits in
    record {
      some = λ k bs h. elim (laid_cases m n s to whole laid k bs h) [
        | inl new ↦ let long : length bs ≡ length whole = ap length new.1 in omega arith
        | inr other ↦ old.some k bs other.1
      ];
      fits = λ k bs h. elim (laid_cases m n s to whole laid k bs h) [
        | inl new ↦ let long : length bs ≡ length whole = ap length new.1 in let here : k ≡ s = new.0 in omega arith
        | inr other ↦ old.fits k bs other.1
      ];
      apart = λ k l bs cs h g below. elim (laid_cases m n s to whole laid k bs h) [
        | inl new ↦ let long : length bs ≡ length whole = ap length new.1 in let here : k ≡ s = new.0 in
            elim (laid_cases m n s to whole laid l cs g) [
              | inl both ↦ absurd (let there : l ≡ s = both.0 in omega arith)
              | inr other ↦ elim other.0 [
                | inl under ↦ absurd (omega arith)
                | inr past ↦ let behind : at + length bytes + length rest ≤ l = laying.tail.behind l cs other.1 past in omega arith
              ]
            ]
        | inr first ↦ elim (laid_cases m n s to whole laid l cs g) [
          | inl new ↦ let there : l ≡ s = new.0 in
              let under : k < s = omega arith in
              let ended : k + length bs ≤ s = laying.before k bs first.1 under in
              omega arith
          | inr second ↦ old.apart k l bs cs first.1 second.1 below
        ]
      ];
    }

-- a byte that a new run holds, and one that none holds
held : (m n : List (ℕ × List ℕ)) (s to at : ℕ) (base bytes rest : List ℕ) → AreKept m → Laying m s to at base bytes rest → Laid m n s to (take (at - s) base ++ (bytes ++ rest)) → (q : ℕ) (w : Within n q) → get (with_bytes (map_of (pieces_of m)) at bytes) q ≡ Some (get_or w.bytes (q - w.at) 0)
held m n s to at base bytes rest kept laying laid q w =
    let s_low : s ≤ at = laying.low in
    let low : w.at ≤ q = w.low in
    let high : q < w.at + length w.bytes = w.high in
    elim (laid_cases m n s to (take (at - s) base ++ (bytes ++ rest)) laid w.at w.bytes w.here) [
      | inl new ↦ let here : w.at ≡ s = new.0 in
          let long : length w.bytes ≡ length (take (at - s) base ++ (bytes ++ rest)) = ap length new.1 in
          let size : s + length (take (at - s) base ++ (bytes ++ rest)) ≡ at + length bytes + length rest = size_laid s at base bytes rest s_low laying.reach in
          byte_laid m s to at base bytes rest laying q (omega arith) (omega arith)
          ∙ ap (λ b. Some (get_or b (q - s) 0)) (sym new.1) ∙ ap (λ p. Some (get_or w.bytes (q - p) 0)) (sym here)
      | inr other ↦ elim other.0 [
        | inl under ↦ let ended : w.at + length w.bytes ≤ s = laying.before w.at w.bytes other.1 under in
            get-with_bytes_before (map_of (pieces_of m)) at bytes q (omega arith)
            ∙ get_in m 0 kept.0 w.at w.bytes q other.1 low high
        | inr past ↦ let behind : at + length bytes + length rest ≤ w.at = laying.tail.behind w.at w.bytes other.1 past in
            get-with_bytes_behind (map_of (pieces_of m)) at bytes q (omega arith)
            ∙ get_in m 0 kept.0 w.at w.bytes q other.1 low high
      ]
    ]

not_held : (m n : List (ℕ × List ℕ)) (s to at : ℕ) (base bytes rest : List ℕ) → AreKept m → AreKept n → Laying m s to at base bytes rest → s + length (take (at - s) base ++ (bytes ++ rest)) ≡ at + length bytes + length rest → Laid m n s to (take (at - s) base ++ (bytes ++ rest)) → (q : ℕ) → get (map_of (pieces_of n)) q ≡ None → get (with_bytes (map_of (pieces_of m)) at bytes) q ≡ None
not_held m n s to at base bytes rest kept new laying size laid q none =
    let s_low : s ≤ at = laying.low in
    let outside : s ≤ q → q < at + length bytes + length rest → ⊥ = λ from to. none_byte (get (map_of (pieces_of n)) q) (get_or (take (at - s) base ++ (bytes ++ rest)) (q - s) 0) none (get_in n 0 new.0 s (take (at - s) base ++ (bytes ++ rest)) q laid.here from (omega arith)) in
    get-with_bytes_out (map_of (pieces_of m)) at bytes q (λ p. outside (let from : at ≤ q = p.0 in omega arith) (let to : q < at + length bytes = p.1 in omega arith))
    ∙ elim (within m 0 kept.0 q) [
      | inr none_too ↦ none_too
      | inl w ↦ absurd (let low : w.at ≤ q = w.low in let high : q < w.at + length w.bytes = w.high in
          elim (cases_lt w.at s) [
            | inl under ↦ none_byte (get (map_of (pieces_of n)) q) (get_or w.bytes (q - w.at) 0) none (get_in n 0 new.0 w.at w.bytes q (laid.stay w.at (inl under) ∙ w.here) low high)
            | inr from ↦ elim (cases_lt to w.at) [
              | inl past ↦ none_byte (get (map_of (pieces_of n)) q) (get_or w.bytes (q - w.at) 0) none (get_in n 0 new.0 w.at w.bytes q (laid.stay w.at (inr past) ∙ w.here) low high)
              | inr upto ↦ let ended : w.at + length w.bytes ≤ at + length bytes + length rest = laying.tail.inside w.at w.bytes w.here upto in
                  outside (omega arith) (omega arith)
            ]
          ])
    ]

-- bytes that are laid over runs are put over the map that the runs make
pub laid_hold : (m n : List (ℕ × List ℕ)) (s to at : ℕ) (base bytes rest : List ℕ) → AreKept m → IsStrictlySortedBy nat_cmp (keys_of n) → Laying m s to at base bytes rest → Laid m n s to (take (at - s) base ++ (bytes ++ rest)) → Hold n (with_bytes (map_of (pieces_of m)) at bytes)
laid_hold m n s to at base bytes rest kept sorted laying laid =
    let low : s ≤ at = laying.low in
    let size : s + length (take (at - s) base ++ (bytes ++ rest)) ≡ at + length bytes + length rest = size_laid s at base bytes rest low laying.reach in
    let new : AreKept n = kept_spaced n sorted (spaced_laid m n s to at base bytes rest (take (at - s) base ++ (bytes ++ rest)) kept laying size laid) in
    record {
      kept = new;
      map = same_map nat_cmp_total nat_cmp-IsAntisymmetric (map_of (pieces_of n)) (with_bytes (map_of (pieces_of m)) at bytes) (λ q. elim (within n 0 new.0 q) [
        | inl w ↦ get_within n 0 new.0 q w ∙ sym (held m n s to at base bytes rest kept laying laid q w)
        | inr none ↦ none ∙ sym (not_held m n s to at base bytes rest kept new laying size laid q none)
      ]);
    }

-- bytes that no run reaches from before, and those that a run reaches
laying_begin : (m : List (ℕ × List ℕ)) (at end to : ℕ) (bytes rest : List ℕ) → NoneReaches m at end → at ≤ end → 0 < length bytes → Tail m to (at + length bytes) rest → Laying m at to at [] bytes rest
laying_begin m at end to bytes rest apart order some tail = record {
  low = omega arith;
  reach = omega arith;
  some = omega arith;
  before = λ k bs h under. let short : k + length bs < at = apart k bs h (omega arith) in omega arith;
  head = λ i below. absurd (omega arith);
  tail = tail;
}

laying_over : (m : List (ℕ × List ℕ)) (s to at : ℕ) (base bytes rest : List ℕ) → AreKept m → run_at m s ≡ Some base → s ≤ at → at ≤ s + length base → s < at + length bytes + length rest → Tail m to (at + length bytes) rest → Laying m s to at base bytes rest
laying_over m s to at base bytes rest kept here low reach some tail = record {
  low = low;
  reach = reach;
  some = some;
  before = λ k bs h under. disjoint_pair m 0 kept.0 k s bs base h here under;
  head = λ i below. get_in m 0 kept.0 s base (s + i) here (omega arith) (omega arith) ∙ ap (λ p. Some (get_or base p 0)) (omega arith);
  tail = tail;
}

-- where the last run from an offset on ends before it, each other does
pub none_reaches : (m : List (ℕ × List ℕ)) (at to begin : ℕ) (bytes : List ℕ) → AreKept m → IsLast m to begin bytes → length bytes < at - begin → NoneReaches m at to
none_reaches m at to begin bytes kept last short k bs h upto =
    elim (cases_lt begin k) [
      | inl after ↦ absurd (none_some (run_at m k) bs (last.last k after upto) h)
      | inr before ↦ elim (cases_lt k begin) [
        | inl under ↦ let before_it : k + length bs ≤ begin = disjoint_pair m 0 kept.0 k begin bs bytes h last.here under in omega arith
        | inr over ↦ let same : k ≡ begin = omega arith in
            let found : run_at m begin ≡ Some bs = subst (λ x. run_at m x ≡ Some bs) same h in
            let here : run_at m begin ≡ Some bytes = last.here in
            let alike : bs ≡ bytes = cc in
            let long : length bs ≡ length bytes = ap length alike in
            omega arith
      ]
    ]

-- the runs that begin elsewhere stand where one that begins in the range is removed
pub stay_removed : (l n m : List (ℕ × List ℕ)) (after to begin : ℕ) (bytes : List ℕ) → IsLast l to begin bytes → after < begin → ((q : ℕ) → is_at (nat_cmp begin) q ≡ false → lookup (is_at (nat_cmp q)) n ≡ lookup (is_at (nat_cmp q)) l) → ((k : ℕ) → (k ≤ after) ⊎ (to < k) → run_at l k ≡ run_at m k) → (k : ℕ) → (k ≤ after) ⊎ (to < k) → run_at n k ≡ run_at m k
unfolding run_at
stay_removed l n m after to begin bytes last behind removed so k side =
    let low : begin ≤ to = last.low in
    let other : k ≢ begin = elim side [ inl before ↦ omega arith | inr past ↦ omega arith ] in
    removed k (unsigned_tied begin k ∙ eqb-other begin k (λ e. other (sym e))) ∙ so k side

-- what is known of any result is known where it is an error
pub on_err : {T E : Type 0} {P : Type 0} (r : Result T E) → P → OnErr r P
on_err (Ok x) p = tt
on_err (Err e) p = p

pub found_some : (m : List (ℕ × List ℕ)) (k : ℕ) (bytes : List ℕ) → run_at m k ≡ Some bytes → IsSome (run_at m k)
found_some m k bytes h = rw h refl

-- a run is removed
pub fewer_left : (m : List (ℕ × List ℕ)) (n l k : ℕ) (o : Option (List ℕ)) (bytes : List ℕ) → n + cond (is_some o) 1 0 ≡ l → o ≡ lookup (is_at (nat_cmp k)) m → run_at m k ≡ Some bytes → n < l
unfolding run_at
fewer_left m n l k (Some v) bytes count is here = omega arith
fewer_left m n l k None bytes count is here = absurd (none_some (lookup (is_at (nat_cmp k)) m) bytes (sym is) here)

-- an offset that none reaches begins no run
pub none_at : (m : List (ℕ × List ℕ)) (at to : ℕ) → NoneReaches m at to → at ≤ to → run_at m at ≡ None
none_at m at to none order = elim (run_at m at) as (λ o. run_at m at ≡ o → o ≡ None) [
  | None ↦ λ e. refl
  | Some bs ↦ λ e. absurd (let short : at + length bs < at = none at bs e order in omega arith)
] refl

none_in : (m : List (ℕ × List ℕ)) (at to k : ℕ) → NoneReaches m at to → at < k → k ≤ to → run_at m k ≡ None
none_in m at to k none after upto = elim (run_at m k) as (λ o. run_at m k ≡ o → o ≡ None) [
  | None ↦ λ e. refl
  | Some bs ↦ λ e. absurd (let short : k + length bs < at = none k bs e upto in omega arith)
] refl

-- a run is put under an offset, and the others stay
pub others_stay : (m n : List (ℕ × List ℕ)) (at : ℕ) → ((q : ℕ) → is_at (nat_cmp at) q ≡ false → lookup (is_at (nat_cmp q)) n ≡ lookup (is_at (nat_cmp q)) m) → (k : ℕ) → k ≢ at → run_at n k ≡ run_at m k
unfolding run_at
others_stay m n at others k other = others k (unsigned_tied at k ∙ eqb-other at k (λ e. other (sym e)))

pub here_now : (n : List (ℕ × List ℕ)) (at : ℕ) (o : Option (List ℕ)) → lookup (is_at (nat_cmp at)) n ≡ o → run_at n at ≡ o
unfolding run_at
here_now n at o is = is

-- bytes become a run of their own
pub begin_hold : (m n : List (ℕ × List ℕ)) (at : ℕ) (bytes : List ℕ) → AreKept m → NoneReaches m at (at + length bytes) → 0 < length bytes → at + length bytes < 18446744073709551616 → run_at n at ≡ Some bytes → ((k : ℕ) → k ≢ at → run_at n k ≡ run_at m k) → IsStrictlySortedBy nat_cmp (keys_of n) → Hold n (with_bytes (map_of (pieces_of m)) at bytes)
begin_hold m n at bytes kept apart some most here others sorted =
    let alone : take (at - at) [] ++ (bytes ++ []) ≡ bytes = ap (λ a. a ++ (bytes ++ [])) (take_all (at - at) [] (omega arith)) ∙ append-nil bytes in
    laid_hold m n at (at + length bytes) at [] bytes [] kept sorted
    (laying_begin m at (at + length bytes) (at + length bytes) bytes [] apart (omega arith) some (tail_apart m at (at + length bytes) (omega arith) (omega arith) apart))
    (record {
      here = here ∙ ap Some (sym alone);
      gone = λ k after upto. others k (omega arith) ∙ none_in m at (at + length bytes) k apart after upto;
      stay = λ k side. others k (elim side [ inl under ↦ omega arith | inr past ↦ omega arith ]);
    })

-- a run that is found has a byte
found_size : (m : List (ℕ × List ℕ)) (k : ℕ) (bytes : List ℕ) → AreKept m → run_at m k ≡ Some bytes → 0 < length bytes
found_size m k bytes kept here = (disjoint_low m 0 k bytes kept.0 here).1

-- bytes are laid over the run that reaches them, and none begins in their range
pub lay_hold : (m n : List (ℕ × List ℕ)) (s at : ℕ) (bytes : List ℕ) → AreKept m → Reaches m at (at + length bytes) s → s ≤ at → at + length bytes < 18446744073709551616 → Replaces m n s (λ base. laid_over base (at - s) bytes) → IsStrictlySortedBy nat_cmp (keys_of n) → Hold n (with_bytes (map_of (pieces_of m)) at bytes)
lay_hold m n s at bytes kept reached low most puts sorted =
    let last : IsLast m (at + length bytes) s reached.bytes = reached.last in
    let some : 0 < length reached.bytes = found_size m s reached.bytes kept last.here in
    let size : length (drop (at + length bytes - s) reached.bytes) ≡ length reached.bytes - (at + length bytes - s) = length-drop (at + length bytes - s) reached.bytes in
    let behind : drop (at + length bytes - s) reached.bytes ≡ drop (at - s + length bytes) reached.bytes = ap (λ p. drop p reached.bytes) (omega arith) in
    laid_hold m n s (at + length bytes) at reached.bytes bytes (drop (at + length bytes - s) reached.bytes) kept sorted
    (laying_over m s (at + length bytes) at reached.bytes bytes _ kept last.here low reached.end (omega arith) (tail_last m (at + length bytes) s reached.bytes kept (omega arith) last))
    (record {
      here = puts.here reached.bytes last.here ∙ ap (λ a. Some (take (at - s) reached.bytes ++ (bytes ++ a))) (sym behind);
      gone = λ k after upto. puts.others k (omega arith) ∙ last.last k after upto;
      stay = λ k side. puts.others k (elim side [ inl under ↦ omega arith | inr past ↦ omega arith ]);
    })

-- bytes are laid over a run that reaches them, and what lies behind it in their range is removed
laid_cleared : (m a n : List (ℕ × List ℕ)) (s to at : ℕ) (base bytes rest : List ℕ) → run_at m s ≡ Some base → s + length base ≤ at + length bytes → s ≤ at → s ≤ to → rest ≡ [] → Replaces m a s (λ b. laid_over b (at - s) bytes) → AreCleared a n s to → Laid m n s to (take (at - s) base ++ (bytes ++ rest))
laid_cleared m a n s to at base bytes rest here ends_in low order none puts cleared =
    let over : drop (at - s + length bytes) base ≡ [] = drop_all (at - s + length bytes) base (omega arith) in
    record {
      here = cleared.stay s (inl (omega arith)) ∙ puts.here base here ∙ ap (λ x. Some (take (at - s) base ++ (bytes ++ x))) (over ∙ sym none);
      gone = cleared.gone;
      stay = λ k side. cleared.stay k (elim side [ inl under ↦ inl (omega arith) | inr past ↦ inr past ]) ∙ puts.others k (elim side [ inl under ↦ omega arith | inr past ↦ omega arith ]);
    }

-- bytes are laid over a run, which ends no further than where the last run of their range begins
run_before : (m : List (ℕ × List ℕ)) (s last : ℕ) (base behind : List ℕ) → AreKept m → run_at m s ≡ Some base → run_at m last ≡ Some behind → s < last → s + length base ≤ last
run_before m s last base behind kept first second order = disjoint_pair m 0 kept.0 s last base behind first second order

pub bridge_over : (m a n : List (ℕ × List ℕ)) (s last at ended : ℕ) (bytes : List ℕ) → AreKept m → Reaches m at at s → Reaches m at (at + length bytes) last → at < last → at + length bytes < 18446744073709551616 → IfSome (run_at m last) (λ behind. ended ≡ last + length behind) → ended ≤ at + length bytes → Replaces m a s (λ base. laid_over base (at - s) bytes) → AreCleared a n s last → IsStrictlySortedBy nat_cmp (keys_of n) → Hold n (with_bytes (map_of (pieces_of m)) at bytes)
bridge_over m a n s last at ended bytes kept first second order most is inside puts cleared sorted =
    let low : s ≤ at = first.last.low in
    let last_low : last ≤ at + length bytes = second.last.low in
    let size : ended ≡ last + length second.bytes = subst (λ o. IfSome o (λ behind. ended ≡ last + length behind)) second.last.here is in
    let upto : s + length first.bytes ≤ last = run_before m s last first.bytes second.bytes kept first.last.here second.last.here (omega arith) in
    let none : drop (at + length bytes - last) second.bytes ≡ [] = drop_all (at + length bytes - last) second.bytes (omega arith) in
    laid_hold m n s last at first.bytes bytes (drop (at + length bytes - last) second.bytes) kept sorted
    (laying_over m s last at first.bytes bytes _ kept first.last.here low first.end (omega arith)
    (tail_upto m (at + length bytes) last second.bytes _ second.last (tail_last m (at + length bytes) last second.bytes kept (omega arith) second.last)))
    (laid_cleared m a n s last at first.bytes bytes _ first.last.here (omega arith) low (omega arith) none puts cleared)

-- bytes are laid between two runs: the first up to where the last begins, and the others over the last
pub bridge_into : (m a b n : List (ℕ × List ℕ)) (s last at ended : ℕ) (bytes front back : List ℕ) → AreKept m → Reaches m at at s → Reaches m at (at + length bytes) last → at < last → at + length bytes < 18446744073709551616 → IfSome (run_at m last) (λ behind. ended ≡ last + length behind) → at + length bytes < ended → front ≡ take (last - at) bytes → back ≡ drop (last - at) bytes → Replaces m a s (λ base. laid_over base (at - s) front) → AreCleared a b s (last - 1) → IsStrictlySortedBy nat_cmp (keys_of b) → Replaces b n last (λ base. laid_over base 0 back) → IsStrictlySortedBy nat_cmp (keys_of n) → Hold n (with_bytes (map_of (pieces_of m)) at bytes)
bridge_into m a b n s last at ended bytes front back kept first second order most is beyond is_front is_back puts cleared sorted_b over sorted =
    let low : s ≤ at = first.last.low in
    let last_low : last ≤ at + length bytes = second.last.low in
    let size : ended ≡ last + length second.bytes = subst (λ o. IfSome o (λ behind. ended ≡ last + length behind)) second.last.here is in
    let upto : s + length first.bytes ≤ last = run_before m s last first.bytes second.bytes kept first.last.here second.last.here (omega arith) in
    let long : length front ≡ last - at = omega (arith, ap length is_front ∙ length-take (last - at) bytes) in
    let short : length back ≡ length bytes - (last - at) = ap length is_back ∙ length-drop (last - at) bytes in
    let seam : at + length front ≡ last = omega arith in
    let tail : Tail m (last - 1) (at + length front) [] = subst (λ e. Tail m (last - 1) e []) (sym seam) (tail_before m last second.bytes kept second.last.here (omega arith)) in
    let begun : Hold b (with_bytes (map_of (pieces_of m)) at front) =
    laid_hold m b s (last - 1) at first.bytes front [] kept sorted_b
    (laying_over m s (last - 1) at first.bytes front [] kept first.last.here low first.end (omega arith) tail)
    (laid_cleared m a b s (last - 1) at first.bytes front [] first.last.here (omega arith) low (omega arith) refl puts cleared) in
    let stays : (k : ℕ) → last ≤ k → run_at b k ≡ run_at m k = λ k past. cleared.stay k (inr (omega arith)) ∙ puts.others k (omega arith) in
    let is_last : IsLast b (last + length back) last second.bytes = record {
      low = omega arith;
      here = stays last (omega arith) ∙ second.last.here;
      last = λ k after until. stays k (omega arith) ∙ second.last.last k after (omega arith);
    } in
    let done : Hold n (with_bytes (map_of (pieces_of b)) last back) =
    lay_hold b n last last back begun.kept (record { bytes = second.bytes; last = is_last; end = omega arith }) (omega arith) (omega arith)
    (record {
      here = λ base h. over.here base h ∙ ap (λ p. Some (laid_over base p back)) {x = 0} {y = last - last} (omega arith);
      others = over.others;
    })
    sorted in
    record {
      kept = done.kept;
      map = done.map ∙ ap (λ x. with_bytes x last back) begun.map
          ∙ ap (λ p. with_bytes (with_bytes (map_of (pieces_of m)) at front) p back) {x = last} {y = at + length front} (sym seam)
          ∙ sym (with_bytes-append (map_of (pieces_of m)) at front back)
          ∙ ap (with_bytes (map_of (pieces_of m)) at) (ap (λ x. x ++ back) is_front ∙ ap (λ x. take (last - at) bytes ++ x) is_back ∙ take-append-drop (last - at) bytes);
    }

-- the run that follows one without a gap is appended to it
pub append_hold : (m n : List (ℕ × List ℕ)) (s end : ℕ) (base more : List ℕ) → AreKept m → run_at m s ≡ Some base → run_at m end ≡ Some more → s + length base ≡ end → Appends m n s end → IsStrictlySortedBy nat_cmp (keys_of n) → HoldStill m n
append_hold m n s end base more kept first second is appended sorted =
    let some : 0 < length base = found_size m s base kept first in
    let some_more : 0 < length more = found_size m end more kept second in
    let reach : end + length more ≤ 18446744073709551615 = ends m 18446744073709551615 end more kept.1 second in
    let last : IsLast m (end + 0) end more = record {
      low = omega arith;
      here = second;
      last = λ k after upto. absurd (omega arith);
    } in
    let rest : drop (end + 0 - end) more ≡ more = ap (λ p. drop p more) {x = end + 0 - end} {y = 0} (omega arith) in
    let tail : Tail m (end + 0) (end + 0) more = subst (Tail m (end + 0) (end + 0)) rest (tail_last m (end + 0) end more kept (omega arith) last) in
    let front : take (end - s) base ≡ base = take_all (end - s) base (omega arith) in
    let put : Hold n (with_bytes (map_of (pieces_of m)) end []) =
    laid_hold m n s (end + 0) end base [] more kept sorted
    (laying_over m s (end + 0) end base [] more kept first (omega arith) (omega arith) (omega arith) tail)
    (record {
      here = appended.here base more first second ∙ ap (λ x. Some (x ++ more)) (sym front);
      gone = λ k after upto. elim (same_or_not k end) [
        | inl same ↦ subst (λ x. run_at n x ≡ None) (sym same) appended.gone
        | inr other ↦ appended.others k (omega arith) other ∙ elim (run_at m k) as (λ o. run_at m k ≡ o → o ≡ None) [
          | None ↦ λ e. refl
          | Some bs ↦ λ e. absurd (let behind : s + length base ≤ k = disjoint_pair m 0 kept.0 s k base bs first e after in omega arith)
        ] refl
      ];
      stay = λ k side. appended.others k (elim side [ inl under ↦ omega arith | inr past ↦ omega arith ]) (elim side [ inl under ↦ omega arith | inr past ↦ omega arith ]);
    }) in
    record { kept = put.kept; map = put.map ∙ sym (with_bytes_none (map_of (pieces_of m)) end [] refl) }

-- the last run of a range stays the last where one is put before it
last_stays : (m n : List (ℕ × List ℕ)) (at to last : ℕ) (bytes : List ℕ) → ((k : ℕ) → k ≢ at → run_at n k ≡ run_at m k) → at < last → IsLast m to last bytes → IsLast n to last bytes
last_stays m n at to last bytes others after is = record {
  low = is.low;
  here = others last (omega arith) ∙ is.here;
  last = λ k over upto. others k (omega arith) ∙ is.last k over upto;
}

-- a run of no bytes was put at an offset that none reaches, and the run behind it joined to it
pub new_hold : (m put n : List (ℕ × List ℕ)) (last at : ℕ) (bytes : List ℕ) → AreKept m → NoneReaches m at at → at < last → 0 < length bytes → at + length bytes < 18446744073709551616 → run_at put at ≡ Some [] → ((k : ℕ) → k ≢ at → run_at put k ≡ run_at m k) → JoinsAt put n at last at bytes → IsStrictlySortedBy nat_cmp (keys_of n) → Hold n (with_bytes (map_of (pieces_of m)) at bytes)
new_hold m put n last at bytes kept apart after some most empty others joined sorted =
    let first : run_at put at ≡ Some joined.base = joined.first in
    let none : joined.base ≡ [] = cc in
    let is_last : IsLast m (at + length bytes) last joined.behind = last_stays put m at (at + length bytes) last joined.behind (λ k other. sym (others k other)) after joined.is_last in
    laid_hold m n at (at + length bytes) at [] bytes _ kept sorted
    (laying_begin m at at (at + length bytes) bytes _ apart (omega arith) some (tail_last m (at + length bytes) last joined.behind kept (omega arith) is_last))
    (record {
      here = joined.laid.here ∙ ap (λ b. Some (take (at - at) b ++ (bytes ++ drop (at + length bytes - last) joined.behind))) none;
      gone = joined.laid.gone;
      stay = λ k side. joined.laid.stay k side ∙ others k (elim side [ inl under ↦ omega arith | inr past ↦ omega arith ]);
    })

-- it is removed again
pub new_same : (m put left n : List (ℕ × List ℕ)) (at : ℕ) → AreKept m → NoneReaches m at at → ((k : ℕ) → k ≢ at → run_at put k ≡ run_at m k) → AreSame put left → run_at n at ≡ None → ((k : ℕ) → k ≢ at → run_at n k ≡ run_at left k) → IsStrictlySortedBy nat_cmp (keys_of n) → Hold n (map_of (pieces_of m))
new_same m put left n at kept apart others same gone stay sorted =
    same_runs m n kept sorted (λ k. elim (same_or_not k at) [
      | inl here ↦ subst (λ x. run_at n x ≡ run_at m x) (sym here) (gone ∙ sym (none_at m at at apart (omega arith)))
      | inr other ↦ stay k other ∙ same k ∙ others k other
    ])

-- what a join asks for of a new run
pub meet_new : (m put : List (ℕ × List ℕ)) (last at size : ℕ) → AreKept m → Reaches m at (at + size) last → at < last → at + size < 18446744073709551616 → run_at put at ≡ Some [] → ((k : ℕ) → k ≢ at → run_at put k ≡ run_at m k) → Meet put at last at size
meet_new m put last at size kept is after most empty others =
    let ended : last + length is.bytes ≤ 18446744073709551615 = ends m 18446744073709551615 last is.bytes kept.1 is.last.here in
    record { base = []; behind = is.bytes; first = empty; low = omega arith; reach = omega arith; order = after; is_last = last_stays m put at (at + size) last is.bytes others after is.last; fits = most; fits_behind = omega arith }

-- what follows from what is known of a result
pub ok_so : {T E : Type 0} {P Q : Type 0} (r : Result T E) → (P → Q) → OnOk r P → OnOk r Q
ok_so (Ok x) f p = f p
ok_so (Err e) f p = tt

pub err_so : {T E : Type 0} {P Q : Type 0} (r : Result T E) → (P → Q) → OnErr r P → OnErr r Q
err_so (Ok x) f p = tt
err_so (Err e) f p = f p
