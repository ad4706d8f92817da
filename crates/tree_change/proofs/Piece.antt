-- What changes in all trees is what changes in each, one tree after the other.
use Rattle.std.proofs.Common.{◌≡◌, ℕ, ◌+◌, ◌*◌, ◌==◌, Bool, true, false, not, ◌&&◌, List, [], ◌∷◌, ◌++◌, length, length-append, refl, ap, sym, ◌∙◌}
use Rattle.std.proofs.Common.{arith}
use Rattle.std.proofs.lemmas.Bool.{eqb-true}
use Rattle.std.proofs.lemmas.Bool.Decides.{nat_tests}
use Rattle.std.specs.List.{filter}
use Rattle.std.specs.Ordering.{nat_cmp}
use Rattle.std.specs.FinMap.{FinMap}
use Rattle.verdict.proofs.Lists.{append_append}
use Rattle.live_index.specs.declared.live.Live.{Live}
use Rattle.node_reader.specs.declared.expect.Expect.{Expect}
use Rattle.records.specs.Part.{Located}
use Rattle.records.specs.Seen.{Seen}
use Rattle.touched_blocks.specs.Touched.{Written, written_in}
use Rattle.tree_laws.specs.LivePairs.{Walked, live_in}
use Rattle.tree_laws.specs.MergedLaw.{items}
use Rattle.tree_laws.specs.ShiftedLaw.{is_shifted}
use Rattle.tree_laws.specs.Unshared.{items_in}
use Rattle.tree_change.specs.AllTrees.{no_parts, with_parts}
use Rattle.tree_change.specs.OneTree.{ChangesTree, unchanged}
use Rattle.tree_change.specs.Unchanged.{changed_in, is_unchanged, unchanged_shifted}
use Rattle.tree_change.specs.Walks.{Parts, Side}
use Rattle.tree_change.proofs.Alone.{shifted_same}
use Rattle.tree_change.proofs.Split.{IsOf, items_filter, stands_in}
use Rattle.tree_change.proofs.Unordered.{any_filter, filter_swap, of_id, of_ids}

-- what changes in all, by the definitions
abbrev pub changed : Walked → Walked → Written → ℕ → Parts
changed old new written end = record {
  old_blocks = changed_in old new written end old;
  new_blocks = changed_in old new written end new;
  shifted = unchanged_shifted old new written end;
  old_items = items_in (changed_in old new written end old) old.seen;
  new_items = items_in (changed_in old new written end new) new.seen;
  count = 0;
}

abbrev pub live_id : Live → ℕ
live_id live = live.tree

abbrev pub item_id : Located → ℕ
item_id one = one.tree

-- parts are those of an id
pub record IsPiece (all : Parts) (id : ℕ) (parts : Parts) : Type 0 where
  pub old_blocks : parts.old_blocks ≡ of_id live_id id all.old_blocks
  pub new_blocks : parts.new_blocks ≡ of_id live_id id all.new_blocks
  pub shifted : parts.shifted ≡ of_id live_id id all.shifted
  pub old_items : parts.old_items ≡ of_id item_id id all.old_items
  pub new_items : parts.new_items ≡ of_id item_id id all.new_items
  pub count : parts.count ≡ length parts.old_blocks + 2 * length parts.new_blocks

-- and those of some ids
pub record ArePieces (all : Parts) (ids : List ℕ) (parts : Parts) : Type 0 where
  pub old_blocks : parts.old_blocks ≡ of_ids live_id ids all.old_blocks
  pub new_blocks : parts.new_blocks ≡ of_ids live_id ids all.new_blocks
  pub shifted : parts.shifted ≡ of_ids live_id ids all.shifted
  pub old_items : parts.old_items ≡ of_ids item_id ids all.old_items
  pub new_items : parts.new_items ≡ of_ids item_id ids all.new_items
  pub count : parts.count ≡ length parts.old_blocks + 2 * length parts.new_blocks

pub pieces_none : (all : Parts) → ArePieces all [] no_parts
pieces_none all = record { old_blocks = refl; new_blocks = refl; shifted = refl; old_items = refl; new_items = refl; count = refl }

-- the parts of one tree before those of others
both : {X : Type 0} (a b c d : List X) → a ≡ c → b ≡ d → a ++ b ≡ c ++ d
both a b c d x y = ap (λ l. l ++ b) x ∙ ap (λ l. c ++ l) y

counts : (n m : ℕ) (a b c d : List Live) → n ≡ length a + 2 * length b → m ≡ length c + 2 * length d
    → n + m ≡ length (a ++ c) + 2 * length (b ++ d)
counts n m a b c d x y = let u = length-append a c in let v = length-append b d in omega (arith, x, y, u, v)

pub pieces_with : (all : Parts) (id : ℕ) (ids : List ℕ) (p q : Parts) → IsPiece all id p → ArePieces all ids q
    → ArePieces all (id ∷ ids) (with_parts p q)
pieces_with all id ids p q a b = record {
  old_blocks = both p.old_blocks q.old_blocks (of_id live_id id all.old_blocks) (of_ids live_id ids all.old_blocks) a.old_blocks b.old_blocks;
  new_blocks = both p.new_blocks q.new_blocks (of_id live_id id all.new_blocks) (of_ids live_id ids all.new_blocks) a.new_blocks b.new_blocks;
  shifted = both p.shifted q.shifted (of_id live_id id all.shifted) (of_ids live_id ids all.shifted) a.shifted b.shifted;
  old_items = both p.old_items q.old_items (of_id item_id id all.old_items) (of_ids item_id ids all.old_items) a.old_items b.old_items;
  new_items = both p.new_items q.new_items (of_id item_id id all.new_items) (of_ids item_id ids all.new_items) a.new_items b.new_items;
  count = counts p.count q.count p.old_blocks p.new_blocks q.old_blocks q.new_blocks a.count b.count;
}

-- the parts of some trees before those of others
ids_both : {X : Type 0} (id : X → ℕ) (ids others : List ℕ) (xs : List X) → of_ids id ids xs ++ of_ids id others xs ≡ of_ids id (ids ++ others) xs
ids_both id [] others xs = refl
ids_both id (n ∷ ids) others xs =
    append_append (of_id id n xs) (of_ids id ids xs) (of_ids id others xs) ∙ ap (λ l. of_id id n xs ++ l) (ids_both id ids others xs)

pub pieces_append : (all : Parts) (ids others : List ℕ) (p q : Parts) → ArePieces all ids p → ArePieces all others q
    → ArePieces all (ids ++ others) (with_parts p q)
pieces_append all ids others p q a b = record {
  old_blocks = both p.old_blocks q.old_blocks (of_ids live_id ids all.old_blocks) (of_ids live_id others all.old_blocks) a.old_blocks b.old_blocks
      ∙ ids_both live_id ids others all.old_blocks;
  new_blocks = both p.new_blocks q.new_blocks (of_ids live_id ids all.new_blocks) (of_ids live_id others all.new_blocks) a.new_blocks b.new_blocks
      ∙ ids_both live_id ids others all.new_blocks;
  shifted = both p.shifted q.shifted (of_ids live_id ids all.shifted) (of_ids live_id others all.shifted) a.shifted b.shifted
      ∙ ids_both live_id ids others all.shifted;
  old_items = both p.old_items q.old_items (of_ids item_id ids all.old_items) (of_ids item_id others all.old_items) a.old_items b.old_items
      ∙ ids_both item_id ids others all.old_items;
  new_items = both p.new_items q.new_items (of_ids item_id ids all.new_items) (of_ids item_id others all.new_items) a.new_items b.new_items
      ∙ ids_both item_id ids others all.new_items;
  count = counts p.count q.count p.old_blocks p.new_blocks q.old_blocks q.new_blocks a.count b.count;
}

-- the items in the leaves of the pairs of an id
pub items_of_id : (id : ℕ) (lives : List Live) (records seen : List Seen) → IsOf id records seen
    → items_in (of_id live_id id lives) records ≡ of_id item_id id (items_in lives seen)
items_of_id id lives records seen of =
    items_filter (of_id live_id id lives) records
    ∙ (ap (filter (stands_in (of_id live_id id lives))) of.found
    ∙ (filter_swap (λ one. item_id one == id) (stands_in lives) (stands_in (of_id live_id id lives)) (λ one is. same one is) (items seen)
    ∙ sym (ap (of_id item_id id) (items_filter lives seen))))
  where
    through : (m n k : ℕ) (b : Bool) → (n == k) ≡ true → ((m == n) && b) ≡ true → (m == k) ≡ true
    through m n k true a is = grind (arith, nat_tests)
    through m n k false a is = no (m == n) is
      where
        no : (c : Bool) → (c && false) ≡ true → (m == k) ≡ true
        no true is = absurd (cc)
        no false is = absurd (cc)

    same : (one : Located) → (item_id one == id) ≡ true → stands_in (of_id live_id id lives) one ≡ stands_in lives one
    same one is =
        any_filter (λ live. live_id live == id) (λ (live : Live). live.tree == one.tree && live.address == one.block)
        (λ live both. through live.tree one.tree id (live.address == one.block) is both) lives

-- What changes in one tree is what changes in all, of its id.
pub piece_of : (image : List ℕ) (pending : FinMap nat_cmp ℕ) (old new : Walked) (is : Side) (now : Expect) (olds news : List Seen) (parts : Parts)
    (id : ℕ)
    → ChangesTree image pending old is now olds news parts → IsOf id olds old.seen → IsOf id news new.seen
    → ((live : Live) → live.tree ≡ id → unchanged image pending old is news live ≡ is_unchanged old new (written_in pending) (length image) live)
    → IsPiece (changed old new (written_in pending) (length image)) id parts
piece_of image pending old new is now olds news parts id c of_old of_new same =
    record {
      old_blocks = old_blocks;
      new_blocks = new_blocks;
      shifted = c.shifted ∙ (ap (filter (λ live. unchanged image pending old is news live && is_shifted (live_in olds) live)) of_new.lives
          ∙ filter_swap (λ live. live_id live == id) (λ live. shared live && is_shifted (live_in old.seen) live)
          (λ live. unchanged image pending old is news live && is_shifted (live_in olds) live) (λ live at. shifts live at) (live_in new.seen));
      old_items = c.old_items ∙ (ap (λ lives. items_in lives olds) old_blocks
          ∙ items_of_id id (changed_in old new (written_in pending) (length image) old) olds old.seen of_old);
      new_items = c.new_items ∙ (ap (λ lives. items_in lives news) new_blocks
          ∙ items_of_id id (changed_in old new (written_in pending) (length image) new) news new.seen of_new);
      count = c.count;
    }
  where
    shared : Live → Bool
    shared live = is_unchanged old new (written_in pending) (length image) live

    here : (live : Live) → (live_id live == id) ≡ true → unchanged image pending old is news live ≡ shared live
    here live at = same live (eqb-true live.tree id at)

    shifts : (live : Live) → (live_id live == id) ≡ true
        → (unchanged image pending old is news live && is_shifted (live_in olds) live) ≡ (shared live && is_shifted (live_in old.seen) live)
    shifts live at =
        ap (λ b. b && is_shifted (live_in olds) live) (here live at)
        ∙ ap (λ b. shared live && b) (shifted_same id olds old.seen of_old live (eqb-true live.tree id at))

    old_blocks : parts.old_blocks ≡ of_id live_id id (changed_in old new (written_in pending) (length image) old)
    old_blocks =
        c.old_blocks ∙ (ap (filter (λ live. not (unchanged image pending old is news live))) of_old.lives
        ∙ filter_swap (λ live. live_id live == id) (λ live. not (shared live)) (λ live. not (unchanged image pending old is news live))
        (λ live at. ap not (here live at)) (live_in old.seen))

    new_blocks : parts.new_blocks ≡ of_id live_id id (changed_in old new (written_in pending) (length image) new)
    new_blocks =
        c.new_blocks ∙ (ap (filter (λ live. not (unchanged image pending old is news live))) of_new.lives
        ∙ filter_swap (λ live. live_id live == id) (λ live. not (shared live)) (λ live. not (unchanged image pending old is news live))
        (λ live at. ap not (here live at)) (live_in new.seen))
