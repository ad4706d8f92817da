-- The shared pairs of one tree that are shifted, by the kept blocks.
use Rattle.std.proofs.Common.{◌≡◌, ◌==◌, Bool, true, false, not, ◌&&◌, ◌||◌, List, [], ◌∷◌, inl, inr, refl, ap, sym, subst, ◌∙◌, arith}
use Rattle.std.proofs.lemmas.Bool.Decides.{nat_tests}
use Rattle.std.proofs.lemmas.Grind.{common_steps}
use Rattle.std.specs.Prelude.{Option, Some, is_some, Ok, map, if◌then◌else◌}
use Rattle.std.specs.List.{AllByRecursion, filter, list_any}
use Rattle.verdict.specs.OnDisk.{key_same}
use Rattle.super_reader.specs.declared.Super.{Super}
use Rattle.live_index.specs.Pairs.{Pairs}
use Rattle.live_index.specs.declared.live.Live.{Live}
use Rattle.node_reader.specs.Stored.{Stored}
use Rattle.node_reader.specs.declared.expect.Expect.{Expect}
use Rattle.records.specs.Seen.{Seen}
use Rattle.records.specs.Walk.{walk_of}
use Rattle.records.specs.WalkLaw.{visited}
use Rattle.tree_laws.specs.Keeping.{OneOf, Stands, live_at}
use Rattle.tree_laws.specs.LivePairs.{live_in}
use Rattle.tree_laws.specs.MergedLaw.{AreShared}
use Rattle.tree_laws.specs.MovedLaw.{is_other_than, kept_in, shifted_by}
use Rattle.tree_laws.specs.Shared.{are_alike}
use Rattle.tree_laws.specs.ShiftedLaw.{is_shifted}
use Rattle.tree_laws.specs.Skips.{Kept}
use Rattle.tree_laws.proofs.Lives.{lives_are}
use Rattle.tree_laws.proofs.OldTells.{has_same}

-- whether the node above a pair and its greatest key are another's
abbrev pub differ : Live → Live → Bool
differ one live = not (one.parent == live.parent && key_same one.last live.last)

-- pairs each of which a table has: one that is alike to another is the table's entry
module _ (table : Pairs) where
  abbrev pub IsEntry : Live → Type 0
  IsEntry one = table one.tree one.address ≡ Some one

  entry_of : (one live : Live) → IsEntry one → are_alike one live ≡ true → table live.tree live.address ≡ Some one
  entry_of one live is alike =
      let same = has_same one live alike in
      ap (λ t. table t live.address) (sym same.tree) ∙ (ap (table one.tree) (sym same.address) ∙ is)

  shifted_is : (live : Live) (lives : List Live) → AllByRecursion IsEntry lives
      → list_any (λ one. are_alike one live && differ one live) lives
      ≡ (list_any (λ one. are_alike one live) lives && is_other_than (table live.tree live.address) live)
  shifted_is live [] all = refl
  shifted_is live (one ∷ lives) all = by (are_alike one live) refl (shifted_is live lives all.1)
    where
      twice : (s x : Bool) → (s || (x && s)) ≡ s
      twice true x = refl
      twice false true = refl
      twice false false = refl

      by : (b : Bool) → are_alike one live ≡ b
          → list_any (λ one. are_alike one live && differ one live) lives
          ≡ (list_any (λ one. are_alike one live) lives && is_other_than (table live.tree live.address) live)
          → ((b && differ one live) || list_any (λ one. are_alike one live && differ one live) lives)
          ≡ ((b || list_any (λ one. are_alike one live) lives) && is_other_than (table live.tree live.address) live)
      by true is rest =
          let same : is_other_than (table live.tree live.address) live ≡ differ one live =
          ap (λ (entry : Option Live). is_other_than entry live) (entry_of one live all.0 is) in
          ap (λ b. differ one live || b) (rest ∙ ap (λ b. list_any (λ one. are_alike one live) lives && b) same)
          ∙ (twice (differ one live) (list_any (λ one. are_alike one live) lives) ∙ sym same)
      by false is rest = rest

  entries_of : (sup : Super) (stored : Stored) (es : List Expect) → AllByRecursion (λ v. table v.tree v.address ≡ Some (live_at sup stored v)) es
      → AllByRecursion IsEntry (map (live_at sup stored) es)
  entries_of sup stored [] all = tt
  entries_of sup stored (e ∷ es) all = (all.0, entries_of sup stored es all.1)

-- pairs that pass two tests, by the blocks that they are of
sifted : (shared shifts other : Live → Bool) (keeps : Expect → Bool) (of : Expect → Live) (es : List Expect)
    → AllByRecursion (λ v. keeps v ≡ shared (of v)) es → AllByRecursion (λ v. shared (of v) ≡ true → shifts (of v) ≡ other (of v)) es
    → filter (λ live. shared live && shifts live) (map of es) ≡ filter other (map of (filter keeps es))
sifted shared shifts other keeps of [] all same = refl
sifted shared shifts other keeps of (v ∷ es) all same =
    by (keeps v) refl (sym all.0) (sifted shared shifts other keeps of es all.1 same.1)
  where
    by : (k : Bool) → keeps v ≡ k → shared (of v) ≡ keeps v
        → filter (λ live. shared live && shifts live) (map of es) ≡ filter other (map of (filter keeps es))
        → (if shared (of v) && shifts (of v) then of v ∷ filter (λ live. shared live && shifts live) (map of es)
        else filter (λ live. shared live && shifts live) (map of es))
        ≡ filter other (map of (if k then v ∷ filter keeps es else filter keeps es))
    by true is shares rest =
        let so : shared (of v) ≡ true = shares ∙ is in
        rw (so, same.0 so, rest) refl
    by false is shares rest = rw (shares ∙ is) rest

-- the shared pairs that are shifted are those of the kept blocks which are other than the table has
pub shifted_kept : (pairs : Pairs) (kept : Kept) (shared : Live → Bool) (sup : Super) (stored : Stored) (now : Expect) (olds : List Live)
    (news : List Seen)
    → walk_of sup stored now ≡ Ok news → AllByRecursion (λ v. is_some (kept v) ≡ shared (live_at sup stored v)) (visited sup stored now)
    → AllByRecursion (λ v. shared (live_at sup stored v) ≡ true
    → is_shifted olds (live_at sup stored v) ≡ is_other_than (pairs v.tree v.address) (live_at sup stored v)) (visited sup stored now)
    → shifted_by pairs sup stored (kept_in kept sup stored now) ≡ filter (λ live. shared live && is_shifted olds live) (live_in news)
shifted_kept pairs kept shared sup stored now olds news is keeps same =
    sym (ap (filter (λ live. shared live && is_shifted olds live)) (lives_are sup stored now news is)
    ∙ sifted shared (is_shifted olds) (λ live. is_other_than (pairs live.tree live.address) live) (λ v. is_some (kept v)) (live_at sup stored)
    (visited sup stored now) keeps same)

-- a shared pair is alike to one of the old tree, so that it is shifted where it is other than the table has
pub shifts_as : (pairs : Pairs) (shared : Live → Bool) (sup : Super) (old new : Stored) (before now : Expect) (olds : List Seen)
    → now.tree ≡ before.tree → walk_of sup old before ≡ Ok olds → Stands pairs sup old before → AreShared shared sup old new before now
    → (live : Live) → live.tree ≡ now.tree → shared live ≡ true
    → is_shifted (live_in olds) live ≡ is_other_than (pairs live.tree live.address) live
shifts_as pairs shared sup old new before now olds of is stands both live tree passes =
    let entries : AllByRecursion (IsEntry pairs) (live_in olds) =
    subst (AllByRecursion (IsEntry pairs)) (sym (lives_are sup old before olds is))
    (entries_of pairs sup old (visited sup old before) stands.each.each) in
    shifted_is pairs live (live_in olds) entries
    ∙ ap (λ b. b && is_other_than (pairs live.tree live.address) live)
    (ap (list_any (λ one. are_alike one live)) (lives_are sup old before olds is) ∙ some (visited sup old before) (both.was live tree passes))
  where
    flip : (a b : Live) → are_alike a b ≡ true → are_alike b a ≡ true
    flip a b near =
        let same = has_same a b near in
        rw (same.tree, same.address, same.level, same.generation, same.first) (itself b)
      where
        itself : (l : Live) → are_alike l l ≡ true
        itself l = grind (arith, common_steps, nat_tests)

    or_true : (a b : Bool) → b ≡ true → (a || b) ≡ true
    or_true true b is = refl
    or_true false b is = is

    some : (es : List Expect) → OneOf (λ v. are_alike live (live_at sup old v) ≡ true) es
        → list_any (λ one. are_alike one live) (map (live_at sup old) es) ≡ true
    some [] one = elim one [ ]
    some (e ∷ es) (inl here) =
        ap (λ b. b || list_any (λ one. are_alike one live) (map (live_at sup old) es)) (flip live (live_at sup old e) here)
    some (e ∷ es) (inr later) =
        or_true (are_alike (live_at sup old e) live) (list_any (λ one. are_alike one live) (map (live_at sup old) es)) (some es later)
