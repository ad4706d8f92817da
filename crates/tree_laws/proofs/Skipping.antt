-- The walk that keeps blocks gives the records of those that are not kept.
use Rattle.std.proofs.Common.{◌≡◌, ℕ, zero, suc, ◌-◌, List, [], ◌∷◌, ◌++◌, sym, ◌∙◌, refl, ap, subst, arith}
use Rattle.std.specs.Prelude.{Option, Some, None, Result, Ok, Err, if◌then◌else◌}
use Rattle.std.specs.List.{AllByRecursion, flat_map}
use Rattle.std.proofs.lemmas.Grind.{flat_map-append}
use Rattle.verdict.specs.Rules.{and_then}
use Rattle.verdict.specs.declared.finding.Finding.{Finding}
use Rattle.verdict.specs.declared.key.Key.{Key}
use Rattle.super_reader.specs.declared.Super.{Super}
use Rattle.node_reader.specs.Layout.{pointers_of}
use Rattle.node_reader.specs.Stored.{Stored, block_in}
use Rattle.node_reader.specs.declared.expect.Expect.{Expect}
use Rattle.node_reader.specs.declared.expect.Pointer.{Pointer}
use Rattle.records.specs.Seen.{Seen}
use Rattle.records.specs.Walk.{Records, behind, block_and, children_of, each, own_records, then_records, walk_of}
use Rattle.records.specs.WalkLaw.{visited}
use Rattle.tree_laws.specs.Skips.{Anew, Kept, Told, is_below, next_of, own_of, part_of, skip_and, skip_below, skip_or, unkept, where_new}
use Rattle.tree_laws.specs.SkipLaw.{IsSound, SkippingLaw, anew_below}
use Rattle.tree_laws.proofs.Trails.{Matches, Tells, Trail, Visit, after, tells, then_trail, trail_and, trail_below, trail_of, trail_with, trails}

-- the own records of a block that is not kept, and of one that is kept what is told of it
abbrev pub own_or : Option Key → List Seen → List Seen → List Seen
own_or None own told = own
own_or (Some last) own told = told

abbrev pub pick : Kept → Told → Visit → List Seen
pick kept told v = own_or (kept v.e) v.own (told v.e)

-- of a trail the records of the blocks that are not kept, and what is told of the others
abbrev pub unkept_in : Kept → Told → Trail → Records
unkept_in kept told (Err finding) = Err finding
unkept_in kept told (Ok visits) = Ok (flat_map (pick kept told) visits)

-- the same, by the walk
parts_are : (kept : Kept) (told : Told) (sup : Super) (stored : Stored) (visits : List Visit) (es : List Expect) → Matches sup stored visits es
    → each (part_of kept told sup stored) es ≡ Ok (flat_map (pick kept told) visits)
unfolding behind
parts_are kept told sup stored [] [] m = refl
parts_are kept told sup stored [] (e ∷ es) m = elim m [ ]
parts_are kept told sup stored (v ∷ visits) [] m = elim m [ ]
parts_are kept told sup stored (v ∷ visits) (e ∷ es) m =
    rw (parts_are kept told sup stored visits es m.1, m.0.0) (by (kept e))
  where
    by : (k : Option Key) → then_records (where_new k (own_of sup stored e) (Ok (told e))) (Ok (flat_map (pick kept told) visits)) ≡ Ok (own_or k v.own (told e) ++ flat_map (pick kept told) visits)
    by None = rw (m.0.1) refl
    by (Some last) = refl

pub unkept_is : (kept : Kept) (told : Told) (sup : Super) (stored : Stored) (e : Expect) → unkept kept told sup stored e ≡ unkept_in kept told (trail_of sup stored e)
unkept_is kept told sup stored e = by (trail_of sup stored e) (tells sup stored e)
  where
    by : (trail : Trail) → Tells sup stored trail (walk_of sup stored e) (visited sup stored e) → unkept kept told sup stored e ≡ unkept_in kept told trail
    by (Err finding) t = rw (t.0) refl
    by (Ok visits) t = rw (t.0) (parts_are kept told sup stored visits (visited sup stored e) t.1)

-- the records of two trails one after the other
pub unkept_after : (kept : Kept) (told : Told) (visits : List Visit) (later : Trail) → unkept_in kept told (after visits later) ≡ behind (flat_map (pick kept told) visits) (unkept_in kept told later)
unfolding after behind
unkept_after kept told visits (Err finding) = refl
unkept_after kept told visits (Ok others) = ap Ok (flat_map-append (pick kept told) visits others)

pub unkept_then : (kept : Kept) (told : Told) (first later : Trail) → unkept_in kept told (then_trail first later) ≡ then_records (unkept_in kept told first) (unkept_in kept told later)
unkept_then kept told (Err finding) later = refl
unkept_then kept told (Ok visits) later = unkept_after kept told visits later

-- several blocks on a level, each of which a trail and a walk give alike
alike_each : (kept : Kept) (told : Told) (tree level : ℕ) (of : Expect → Trail) (other : Expect → Records) → ((e : Expect) → e.level ≡ level → e.tree ≡ tree → unkept_in kept told (of e) ≡ other e)
    → (next : List Expect) → AllByRecursion (λ c. (c.level ≡ level) × (c.tree ≡ tree)) next → unkept_in kept told (trails of next) ≡ each other next
alike_each kept told tree level of other alike [] all = refl
alike_each kept told tree level of other alike (e ∷ next) all =
    rw (unkept_then kept told (of e) (trails of next), alike e all.0.0 all.0.1, alike_each kept told tree level of other alike next all.1) refl

-- children are on the level that they are expected on
pub children_level : (level : ℕ) (e : Expect) (pointers : List Pointer) → AllByRecursion (λ c. (c.level ≡ level) × (c.tree ≡ e.tree)) (children_of level e pointers)
children_level level e [] = tt
children_level level e (pointer ∷ pointers) = ((refl, refl), children_level level e pointers)

-- a block that is not kept, where what is below it is alike
alike_block : (kept : Kept) (told : Told) (below : Expect → List ℕ → Trail) (other : Expect → List ℕ → Records) (sup : Super) (stored : Stored) (e : Expect) → kept e ≡ None
    → ((bytes : List ℕ) → unkept_in kept told (below e bytes) ≡ other e bytes)
    → unkept_in kept told (trail_and below sup stored e) ≡ block_and other sup stored e
alike_block kept told below other sup stored e new alike = by (block_in stored sup.fsid e)
  where
    nil : (records : List Seen) → records ++ [] ≡ records
    nil [] = refl
    nil (one ∷ records) = ap (λ more. one ∷ more) (nil records)

    by_own : (bytes : List ℕ) (own : Records) → unkept_in kept told (and_then own (λ o. after (record { e = e; own = o } ∷ []) (below e bytes))) ≡ then_records own (other e bytes)
    by_own bytes (Err finding) = refl
    by_own bytes (Ok own) =
        rw (unkept_after kept told (record { e = e; own = own } ∷ []) (below e bytes), new, nil own, alike bytes) refl

    by : (block : Result (List ℕ) Finding) → unkept_in kept told (and_then block (trail_with below sup e)) ≡ and_then block (λ bytes. then_records (own_records sup e bytes) (other e bytes))
    by (Err finding) = refl
    by (Ok bytes) = by_own bytes (own_records sup e bytes)

-- a block, kept or not
alike_or : (kept : Kept) (told : Told) (anew : Anew) (sup : Super) (stored : Stored) (e : Expect) (others rest : Records) → IsSound e.tree kept told anew sup stored → (here : Option Key) → kept e ≡ here
    → anew_below e.level (unkept kept told sup stored) (anew e) ≡ others
    → (kept e ≡ None → unkept kept told sup stored e ≡ rest) → unkept kept told sup stored e ≡ skip_or e (walk_of sup stored e) (behind (told e) others) rest here
alike_or kept told anew sup stored e others rest sound None is same alike = alike is
alike_or kept told anew sup stored e others rest sound (Some last) is same alike =
    sound.gives e last refl is ∙ ap (λ (walk : Records). if is_below last e.high then behind (told e) walk else walk_of sup stored e) same

-- a block on a level, where what is below it is alike
alike_on : (level : ℕ) (kept : Kept) (told : Told) (anew : Anew) (sup : Super) (stored : Stored) (e : Expect) → IsSound e.tree kept told anew sup stored → e.level ≡ level
    → anew_below level (unkept kept told sup stored) (anew e) ≡ skip_below kept told anew level sup stored (anew e)
    → ((bytes : List ℕ) → unkept_in kept told (trail_below level sup stored e bytes) ≡ skip_below kept told anew level sup stored (next_of e bytes))
    → unkept kept told sup stored e ≡ skip_and kept told anew (skip_below kept told anew level sup stored) sup stored e
alike_on level kept told anew sup stored e sound is same alike =
    alike_or kept told anew sup stored e (skip_below kept told anew level sup stored (anew e))
    (block_and (λ v bytes. skip_below kept told anew level sup stored (next_of v bytes)) sup stored e) sound (kept e) refl
    (ap (λ n. anew_below n (unkept kept told sup stored) (anew e)) is ∙ same)
    (λ new. unkept_is kept told sup stored e
    ∙ subst (λ n. unkept_in kept told (trail_and (trail_below n sup stored) sup stored e) ≡ block_and (λ v bytes. skip_below kept told anew level sup stored (next_of v bytes)) sup stored e) (sym is)
    (alike_block kept told (trail_below level sup stored) (λ v bytes. skip_below kept told anew level sup stored (next_of v bytes)) sup stored e new alike))

-- several blocks whose walks are alike
same_each : (tree level : ℕ) (of other : Expect → Records) → ((e : Expect) → e.level ≡ level → e.tree ≡ tree → of e ≡ other e) → (next : List Expect) → AllByRecursion (λ c. (c.level ≡ level) × (c.tree ≡ tree)) next → each of next ≡ each other next
same_each tree level of other alike [] all = refl
same_each tree level of other alike (e ∷ next) all = rw (alike e all.0.0 all.0.1, same_each tree level of other alike next all.1) refl

-- what is below a block on a level, and what is walked below a kept one
alike_at : (level tree : ℕ) (kept : Kept) (told : Told) (anew : Anew) (sup : Super) (stored : Stored) → IsSound tree kept told anew sup stored → (e : Expect) → e.level ≡ level → e.tree ≡ tree
    → unkept kept told sup stored e ≡ skip_and kept told anew (skip_below kept told anew level sup stored) sup stored e
unfolding trail_below skip_below
alike_at zero tree kept told anew sup stored sound e is of_tree =
    alike_on zero kept told anew sup stored e (subst (λ t. IsSound t kept told anew sup stored) (sym of_tree) sound) is refl (λ bytes. refl)
alike_at (suc level) tree kept told anew sup stored sound e is of_tree =
    alike_on (suc level) kept told anew sup stored e (subst (λ t. IsSound t kept told anew sup stored) (sym of_tree) sound) is
    (same_each tree level (unkept kept told sup stored) (skip_and kept told anew (skip_below kept told anew level sup stored) sup stored) (alike_at level tree kept told anew sup stored sound) (anew e)
    (subst (λ n. AllByRecursion (λ c. (c.level ≡ n) × (c.tree ≡ tree)) (anew e)) under (subst (λ t. AllByRecursion (λ c. (c.level ≡ e.level - 1) × (c.tree ≡ t)) (anew e)) of_tree (sound.next e))))
    (λ bytes. subst (λ n. unkept_in kept told (trails (trail_and (trail_below level sup stored) sup stored) (children_of level e (pointers_of bytes)))
    ≡ each (skip_and kept told anew (skip_below kept told anew level sup stored) sup stored) (children_of n e (pointers_of bytes))) (sym under)
    (alike_each kept told tree level (trail_and (trail_below level sup stored) sup stored) (skip_and kept told anew (skip_below kept told anew level sup stored) sup stored)
    (λ child at same. subst (λ n. unkept_in kept told (trail_and (trail_below n sup stored) sup stored child) ≡ skip_and kept told anew (skip_below kept told anew level sup stored) sup stored child) at
    (sym (unkept_is kept told sup stored child) ∙ alike_at level tree kept told anew sup stored sound child at same))
    (children_of level e (pointers_of bytes))
    (subst (λ t. AllByRecursion (λ c. (c.level ≡ level) × (c.tree ≡ t)) (children_of level e (pointers_of bytes))) of_tree (children_level level e (pointers_of bytes)))))
  where
    under : e.level - 1 ≡ level
    under = omega (arith, is)

pub skips : SkippingLaw
skips kept told anew sup stored e sound = sym (alike_at e.level e.tree kept told anew sup stored sound e refl refl)
