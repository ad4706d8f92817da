-- The walk of a tree of which no block is kept.
use Rattle.std.proofs.Common.{◌≡◌, ℕ, zero, suc, ◌-◌, Bool, true, false, List, [], ◌∷◌, ◌++◌, refl, ap, sym, ◌∙◌}
use Rattle.std.specs.Prelude.{Option, Some, None, Result, Ok, Err, is_some, map, if◌then◌else◌}
use Rattle.std.specs.List.{AllByRecursion, filter, flat_map, list_any}
use Rattle.std.specs.Result.{IsOk}
use Rattle.verdict.proofs.Lists.{all_map as each_map}
use Rattle.verdict.specs.Rules.{no_key}
use Rattle.verdict.specs.declared.finding.Finding.{Finding}
use Rattle.verdict.specs.declared.key.Key.{Key}
use Rattle.super_reader.specs.declared.Super.{Super}
use Rattle.live_index.specs.Pairs.{Pairs}
use Rattle.live_index.specs.declared.live.Live.{Live}
use Rattle.node_reader.specs.Layout.{pointers_of}
use Rattle.node_reader.specs.Stored.{CopyFault, Stored, block_in}
use Rattle.node_reader.specs.declared.expect.Expect.{Expect}
use Rattle.node_reader.specs.declared.expect.Pointer.{Pointer}
use Rattle.records.specs.Seen.{Seen}
use Rattle.records.specs.Walk.{children_of, walk_of}
use Rattle.records.specs.WalkLaw.{children_in, visited, visited_from}
use Rattle.tree_laws.specs.Ending.{Ends, Lasts, before_ends, each_ends, end_at, ends_and, ends_below, ends_of, ends_or, own_last, read_ends}
use Rattle.tree_laws.specs.EndsLaw.{ended_at, next_or, walked_and, walked_below, walked_of}
use Rattle.tree_laws.specs.Keeping.{Marks, Under, anew_of, comes_to, kept_of, live_at, starts_at, starts_in}
use Rattle.tree_laws.specs.Known.{last_of}
use Rattle.tree_laws.specs.LivePairs.{live_in, table_of}
use Rattle.tree_laws.specs.MovedLaw.{shifted_by}
use Rattle.tree_laws.specs.SkipLaw.{IsSound}
use Rattle.tree_laws.specs.Skips.{Anew, Kept, next_of, nothing}
use Rattle.tree_laws.specs.Stops.{stops_and, stops_below, stops_or}
use Rattle.tree_laws.proofs.EndsTold.{ends}
use Rattle.tree_laws.proofs.Forest.{of_root, tree_table}
use Rattle.tree_laws.proofs.Picking.{each_both}
use Rattle.tree_laws.proofs.Sifting.{starts_level}
use Rattle.tree_laws.proofs.Skipping.{children_level}
use Rattle.tree_change.proofs.OneNew.{IsNew}

-- the same of each of several
each_same : (f g : Expect → Ends) (last : Key) (es : List Expect) → AllByRecursion (λ c. f c ≡ g c) es → each_ends f last es ≡ each_ends g last es
each_same f g last [] all = refl
each_same f g last (e ∷ es) all =
    ap (λ (x : Ends). before_ends x.blocks (each_ends f x.last es)) all.0
    ∙ ap (before_ends (g e).blocks) (each_same f g (g e).last es all.1)

flat_same : (f g : Expect → List Expect) (es : List Expect) → AllByRecursion (λ c. f c ≡ g c) es → flat_map f es ≡ flat_map g es
flat_same f g [] all = refl
flat_same f g (e ∷ es) all = ap (λ xs. xs ++ flat_map f es) all.0 ∙ ap (λ xs. g e ++ xs) (flat_same f g es all.1)

flat_none : (f : Expect → List Expect) (es : List Expect) → AllByRecursion (λ c. f c ≡ []) es → flat_map f es ≡ []
flat_none f [] all = refl
flat_none f (e ∷ es) all = ap (λ xs. xs ++ flat_map f es) all.0 ∙ flat_none f es all.1

-- children are of the tree
next_of_tree : (tree level : ℕ) (e : Expect) (block : Result (List ℕ) Finding) → e.tree ≡ tree
    → AllByRecursion (λ c. c.tree ≡ tree) (children_in level e block)
next_of_tree tree level e (Err finding) of = tt
next_of_tree tree level e (Ok bytes) of =
    each_map (λ c. (c.level ≡ level) × (c.tree ≡ e.tree)) (λ c. c.tree ≡ tree) (children_of level e (pointers_of bytes)) (λ c h. h.1 ∙ of)
    (children_level level e (pointers_of bytes))

-- walks of a tree of which no block is kept come to the same blocks, with the same greatest keys
module _ (tree : ℕ) (kept other : Kept) (anew others : Anew) (lasts also : Lasts) (sup : Super) (stored : Stored)
    (none : (e : Expect) → e.tree ≡ tree → kept e ≡ None) (no_other : (e : Expect) → e.tree ≡ tree → other e ≡ None) where
  abbrev pub E : ℕ → Expect → Ends
  E level = ends_and kept anew lasts (ends_below kept anew lasts level sup stored) sup stored

  abbrev pub F : ℕ → Expect → Ends
  F level = ends_and other others also (ends_below other others also level sup stored) sup stored

  ends_block : (below more : Key → List Expect → Ends)
      → ((last : Key) (next : List Expect) → AllByRecursion (λ c. c.tree ≡ tree) next → below last next ≡ more last next)
      → (e : Expect) → e.tree ≡ tree → ends_and kept anew lasts below sup stored e ≡ ends_and other others also more sup stored e
  ends_block below more same e of =
      ap (ends_or lasts e (below no_key (anew e)) (read_ends e below (block_in stored sup.fsid e))) (none e of)
      ∙ (by (block_in stored sup.fsid e)
      ∙ sym (ap (ends_or also e (more no_key (others e)) (read_ends e more (block_in stored sup.fsid e))) (no_other e of)))
    where
      by : (block : Result (List ℕ) Finding) → read_ends e below block ≡ read_ends e more block
      by (Err finding) = refl
      by (Ok bytes) =
          ap (λ (u : Ends). end_at e u.last u.blocks)
          (same (own_last e bytes) (next_of e bytes) (next_of_tree tree (e.level - 1) e (Ok bytes) of))

  ends_at : (level : ℕ) (e : Expect) → e.tree ≡ tree → E level e ≡ F level e
  unfolding ends_below
  ends_at zero e of =
      ends_block (ends_below kept anew lasts zero sup stored) (ends_below other others also zero sup stored) (λ last next all. refl) e of
  ends_at (suc level) e of =
      ends_block (ends_below kept anew lasts (suc level) sup stored) (ends_below other others also (suc level) sup stored)
      (λ last next all. each_same (E level) (F level) last next
      (each_map (λ c. c.tree ≡ tree) (λ c. E level c ≡ F level c) next (λ c at. ends_at level c at) all)) e of

  abbrev pub V : ℕ → Expect → List Expect
  V level = walked_and kept anew (walked_below kept anew level sup stored) sup stored

  abbrev pub W : ℕ → Expect → List Expect
  W level = walked_and other others (walked_below other others level sup stored) sup stored

  walked_block : (below more : List Expect → List Expect)
      → ((next : List Expect) → AllByRecursion (λ c. c.tree ≡ tree) next → below next ≡ more next)
      → (e : Expect) → e.tree ≡ tree → walked_and kept anew below sup stored e ≡ walked_and other others more sup stored e
  walked_block below more same e of =
      let next = children_in (e.level - 1) e (block_in stored sup.fsid e) in
      ap (λ k. below (next_or (anew e) next k) ++ (e ∷ [])) (none e of)
      ∙ (ap (λ es. es ++ (e ∷ [])) (same next (next_of_tree tree (e.level - 1) e (block_in stored sup.fsid e) of))
      ∙ sym (ap (λ k. more (next_or (others e) next k) ++ (e ∷ [])) (no_other e of)))

  walked_at : (level : ℕ) (e : Expect) → e.tree ≡ tree → V level e ≡ W level e
  unfolding walked_below
  walked_at zero e of = walked_block (walked_below kept anew zero sup stored) (walked_below other others zero sup stored) (λ next all. refl) e of
  walked_at (suc level) e of =
      walked_block (walked_below kept anew (suc level) sup stored) (walked_below other others (suc level) sup stored)
      (λ next all. flat_same (V level) (W level) next
      (each_map (λ c. c.tree ≡ tree) (λ c. V level c ≡ W level c) next (λ c at. walked_at level c at) all)) e of

  -- the walk meets no stop
  stops_block : (below : List Expect → List Expect) → ((next : List Expect) → AllByRecursion (λ c. c.tree ≡ tree) next → below next ≡ [])
      → (e : Expect) → e.tree ≡ tree → stops_and kept anew below sup stored e ≡ []
  stops_block below same e of =
      let next = children_in (e.level - 1) e (block_in stored sup.fsid e) in
      ap (stops_or e (below (anew e)) (below next)) (none e of)
      ∙ same next (next_of_tree tree (e.level - 1) e (block_in stored sup.fsid e) of)

  stops_at : (level : ℕ) (e : Expect) → e.tree ≡ tree → stops_and kept anew (stops_below kept anew level sup stored) sup stored e ≡ []
  unfolding stops_below
  stops_at zero e of = stops_block (stops_below kept anew zero sup stored) (λ next all. refl) e of
  stops_at (suc level) e of =
      let S = stops_and kept anew (stops_below kept anew level sup stored) sup stored in
      stops_block (stops_below kept anew (suc level) sup stored)
      (λ next all. flat_none S next (each_map (λ c. c.tree ≡ tree) (λ c. S c ≡ []) next (λ c at. stops_at level c at) all)) e of

abbrev all_marked : Marks
all_marked tree address = true

abbrev none_marked : Marks
none_marked tree address = false

abbrev any_address : ℕ → Bool
any_address address = true

abbrev no_address : ℕ → Bool
no_address address = false

abbrev none_under : Under
none_under tree address = []

-- with all marked none is kept
none_of_marked : (pairs : Pairs) (e : Expect) → kept_of pairs all_marked no_address none_under e ≡ None
unfolding kept_of
none_of_marked pairs e = refl

comes_any : (sup : Super) (stored : Stored) (v : Expect) → true ≡ comes_to any_address sup stored v
unfolding visited_from
comes_any sup stored v = by v.level
  where
    by : (level : ℕ) → true ≡ list_any (λ (w : Expect). any_address w.address) (visited_from level sup stored v)
    by zero = refl
    by (suc level) = refl

comes_none : (es : List Expect) → false ≡ list_any (λ (w : Expect). no_address w.address) es
comes_none [] = refl
comes_none (e ∷ es) = comes_none es

no_starts : (level : ℕ) (block : Result (List ℕ) CopyFault) → [] ≡ starts_at level no_address block
no_starts level (Err fault) = refl
no_starts zero (Ok bytes) = refl
no_starts (suc level) (Ok bytes) = by (pointers_of bytes)
  where
    by : (pointers : List Pointer) → [] ≡ starts_in no_address pointers
    by [] = refl
    by (pointer ∷ pointers) = by pointers

each_of : (P : Expect → Type 0) → ((v : Expect) → P v) → (es : List Expect) → AllByRecursion P es
each_of P f [] = tt
each_of P f (e ∷ es) = (f e, each_of P f es)

module _ (kept : Kept) (under : Under) (lasts : Lasts) (sup : Super) (stored : Stored) (now : Expect)
    (none : (e : Expect) → e.tree ≡ now.tree → kept e ≡ None) where
  -- nothing is kept soundly
  pub none_sound : IsSound now.tree kept nothing (anew_of under) sup stored
  none_sound = record {
    gives = λ e last same is. absurd (not_some (kept e) last (none e same) is);
    next = λ e. starts_level (e.level - 1) e (under e.tree e.address);
  }
    where
      not_some : (here : Option Key) (last : Key) → here ≡ None → here ≡ Some last → ⊥
      not_some here last none some = cc

  none_ends : (news : List Seen) → walk_of sup stored now ≡ Ok news
      → (ends_of kept (anew_of under) lasts sup stored now).blocks ≡ map (ended_at sup stored) (walked_of kept (anew_of under) sup stored now)
  none_ends news is =
      let table = table_of (live_in news) in
      let fine : IsOk (walk_of sup stored now) = rw is refl in
      let K = kept_of table all_marked no_address none_under in
      let L = last_of table none_under in
      let es = visited sup stored now in
      let no_other = λ (e : Expect) (of : e.tree ≡ now.tree). none_of_marked table e in
      ap (λ (e : Ends). e.blocks)
      (ends_at now.tree kept K (anew_of under) (anew_of none_under) lasts L sup stored none no_other now.level now refl
      ∙ ends table all_marked none_marked any_address no_address none_under sup stored stored now now (tree_table sup stored now news is)
      (record { fine = fine; each = each_of (λ v. true ≡ comes_to any_address sup stored v) (comes_any sup stored) es })
      (record { fine = fine; each = each_of (λ v. false ≡ comes_to no_address sup stored v) (λ v. comes_none (visited sup stored v)) es })
      (record {
        fine = fine;
        each = each_of (λ v. [] ≡ starts_at v.level no_address (stored v.address)) (λ v. no_starts v.level (stored v.address)) es;
      })
      (λ address touched moved. refl) refl fine)
      ∙ ap (map (ended_at sup stored))
      (sym (walked_at now.tree kept K (anew_of under) (anew_of none_under) lasts L sup stored none no_other now.level now refl))

  none_kept_in : (es : List Expect) → AllByRecursion (λ v. v.tree ≡ now.tree) es → filter (λ v. is_some (kept v)) es ≡ []
  none_kept_in [] all = refl
  none_kept_in (e ∷ es) all =
      ap (λ (k : Option Key). if is_some k then e ∷ filter (λ v. is_some (kept v)) es else filter (λ v. is_some (kept v)) es) (none e all.0)
      ∙ none_kept_in es all.1

  -- the walk of the tree as it is, where no pair of it is shared
  pub none_new : (pairs : Pairs) (shared : Live → Bool) (news : List Seen) → walk_of sup stored now ≡ Ok news
      → AllByRecursion (λ v. shared (live_at sup stored v) ≡ false) (visited sup stored now)
      → IsNew pairs kept (anew_of under) lasts shared sup stored now news
  none_new pairs shared news is apart =
      let fine : IsOk (walk_of sup stored now) = rw is refl in
      let es = visited sup stored now in
      let of = (of_root sup (stored, now) fine).each in
      let no_stops = stops_at now.tree kept kept (anew_of under) (anew_of under) lasts lasts sup stored none none now.level now refl in
      record {
        is = is;
        sound = none_sound;
        keeps = each_map (λ v. (v.tree ≡ now.tree) × (shared (live_at sup stored v) ≡ false))
            (λ v. is_some (kept v) ≡ shared (live_at sup stored v)) es
            (λ v h. ap (λ (k : Option Key). is_some k) (none v h.0) ∙ sym h.1)
            (each_both (λ v. v.tree ≡ now.tree) (λ v. shared (live_at sup stored v) ≡ false) es of apart);
        blocks = λ v last at keeps. absurd (not_some (kept v) last (none v at) keeps);
        ends = none_ends news is;
        shifted = ap (shifted_by pairs sup stored) (none_kept_in es of ∙ sym no_stops);
      }
    where
      not_some : (here : Option Key) (last : Key) → here ≡ None → here ≡ Some last → ⊥
      not_some here last none some = cc
