-- The writes of a commit, as they are gathered.
use Rattle.std.proofs.Common.{◌≡◌, ℕ, ◌+◌, ◌*◌, ◌^◌, ◌<◌, ◌≤◌, false, List, [], ◌∷◌, ◌++◌, length, get_or, map, Result, Ok, Err, IfOk, refl, sym, ap, ◌∙◌, subst, append_assoc, append-nil, arith}
use Rattle.std.specs.List.{All, Contains, flat_map}
use Rattle.std.proofs.lemmas.List.{length-map, get_or-map}
use Rattle.std.proofs.lemmas.Bool.Decides.{nat_tests}
use Rattle.std.proofs.lemmas.List.Elements.{All-nil, All-cons, All-append, All-weaker, All-contains, Contains-append_left, Contains-append_right}
use Rattle.verdict.specs.declared.machine.Event.{Event}
use Rattle.verdict.specs.declared.machine.Event.TheVariants.{Write}
use Rattle.verdict.specs.Events.{begin_of, length_of, meets_superblock}
use Rattle.volume_maker.specs.declared.block.BlockAt.{BlockAt}
use Rattle.volume_maker.specs.declared.block.Block.{Block}
use Rattle.volume_maker.specs.declared.tree.Tree.{Tree}
use Rattle.volume_maker.specs.declared.trees.Trees.{Trees}
use Rattle.volume_maker.specs.Live.{all_blocks, blocks_of, device_block, kept_blocks}
use Rattle.trace_reader.specs.Trace.{IsBytes}
use Rattle.trace_maker.specs.declared.operation.Operation.{Operation}
use Rattle.trace_maker.specs.Made.{IsWriteBy, IsSuperblockWrite, IsPlaceOf, IsDataOf, IsCommitOf}
use Rattle.trace_maker.specs.Writes.{HasMore, IsWriteOf}
use Rattle.volume_maker.specs.Volume.{Standing}

pub has_none : (g : ℕ) (blocks : List BlockAt) (copy : ℕ) (before : List Event) → HasMore g blocks copy before before
has_none g blocks copy before = record {
  more = [];
  parts = sym (append-nil before);
  lawful = All-nil (IsWriteBy 0);
  placed = All-nil (IsWriteOf g blocks copy);
}

-- one more write, of this block
pub has_one : (g : ℕ) (b : BlockAt) (copy : ℕ) (before after : List Event) (e : Event) → after ≡ before ++ e ∷ [] → IsWriteBy 0 e
    → b.generation ≡ g → begin_of e ≡ 5242880 + 16384 * b.number + copy → length_of e ≡ 16384 → HasMore g (b ∷ []) copy before after
has_one g b copy before after e parts h new place size = record {
  more = e ∷ [];
  parts = parts;
  lawful = All-cons (IsWriteBy 0) e [] h (All-nil (IsWriteBy 0));
  placed = All-cons (IsWriteOf g (b ∷ []) copy) e []
      (record { block = b; one = (0, omega arith, refl); new = new; place = place; size = size }) (All-nil (IsWriteOf g (b ∷ []) copy));
}

pub has_more : (g : ℕ) (blocks : List BlockAt) (copy : ℕ) (a b c : List Event) → HasMore g blocks copy a b → HasMore g blocks copy b c → HasMore g blocks copy a c
has_more g blocks copy a b c m n = record {
  more = m.more ++ n.more;
  parts = n.parts ∙ ap (λ (l : List Event). l ++ n.more) m.parts ∙ append_assoc a m.more n.more;
  lawful = All-append (IsWriteBy 0) m.more n.more m.lawful n.lawful;
  placed = All-append (IsWriteOf g blocks copy) m.more n.more m.placed n.placed;
}

-- the writes of some of these blocks
pub has_some : (g : ℕ) (few blocks : List BlockAt) (copy : ℕ) (a b : List Event) → ((x : BlockAt) → Contains few x → Contains blocks x)
    → HasMore g few copy a b → HasMore g blocks copy a b
has_some g few blocks copy a b among m = record {
  more = m.more;
  parts = m.parts;
  lawful = m.lawful;
  placed = All-weaker (IsWriteOf g few copy) (IsWriteOf g blocks copy)
      (λ e w. record { block = w.block; one = among w.block w.one; new = w.new; place = w.place; size = w.size }) m.more m.placed;
}

behind_superblock : (at len : ℕ) → 69632 ≤ at → meets_superblock at len ≡ false
behind_superblock at len h = grind (arith, nat_tests)

-- a write behind the superblock place that a trace may hold
pub lawful_write : (who at : ℕ) (bytes : List ℕ) → who < 2 ^ 16 → 69632 ≤ at → at < 2 ^ 64 → 1 ≤ length bytes → length bytes ≤ 1048576 → IsBytes bytes
    → IsWriteBy who (Write who at bytes)
lawful_write who at bytes w low high some few h = (refl, (w, high, (some, few), h), behind_superblock at (length bytes) low)

pub whole_superblock : (at : ℕ) (bytes : List ℕ) → at ≡ 65536 → length bytes ≡ 4096 → IsBytes bytes → IsSuperblockWrite (Write 0 at bytes)
whole_superblock at bytes e n h = (refl, e, n, (omega arith, omega arith, (omega arith, omega arith), h))

-- the writes of a commit, put together
pub whole_commit : (k : ℕ) (standing : Standing) (op : Operation) (sector : ℕ) (data_writes front events : List Event) (last : Event)
    → IsPlaceOf op standing sector → IsDataOf k op sector data_writes → All (IsWriteBy 1) data_writes
    → (g : ℕ) (blocks : List BlockAt) (mid : List Event) → HasMore g blocks 0 data_writes mid → HasMore g blocks 8388608 mid front
    → events ≡ front ++ last ∷ [] → IsSuperblockWrite last → IsCommitOf k standing op events
whole_commit k standing op sector data_writes front events last place of_data lawful g blocks mid m n e h = record {
  sector = sector;
  data_writes = data_writes;
  blocks = m.more ++ n.more;
  superblock = last;
  parts = e ∙ ap (λ (l : List Event). l ++ last ∷ []) (n.parts ∙ ap (λ (l : List Event). l ++ n.more) m.parts ∙ append_assoc data_writes m.more n.more);
  place = place;
  of_data = of_data;
  lawful_data = lawful;
  lawful_blocks = All-append (IsWriteBy 0) m.more n.more m.lawful n.lawful;
  lawful = h;
}

-- what was made of a list is such, where the list is
pub if_made : {E : Type 0} (P : List ℕ → Type 0) (r : Result (List ℕ) E) (s : List ℕ) → IfOk r (λ b. b ≡ s) → P s → IfOk r P
if_made P (Ok b) s e h = subst P (sym e) h
if_made P (Err x) s e h = tt

leaf_stands : (t : Tree) (leaf : Block) → Contains t.leaves.items leaf → Contains (blocks_of t) leaf.at
leaf_stands t leaf (k, within, is) =
    let at_of : Block → BlockAt = λ b. b.at in
    let places = map at_of t.leaves.items in
    let there : get_or places k leaf.at ≡ leaf.at = get_or-map at_of t.leaves.items k leaf leaf.at within ∙ ap at_of is in
    Contains-append_left places (t.root.at ∷ []) leaf.at (k, omega (arith, length-map t.leaves.items at_of), there)

only : (blocks : List BlockAt) (b : BlockAt) → Contains blocks b → (x : BlockAt) → Contains (b ∷ []) x → Contains blocks x
only blocks b h x one = All-contains (Contains blocks) (b ∷ []) x (All-cons (Contains blocks) b [] h (All-nil (Contains blocks))) one

-- the writes of one more leaf of a tree
pub more_of_leaf : (g : ℕ) (t : Tree) (leaf : Block) (copy : ℕ) (a b c : List Event) → Contains t.leaves.items leaf
    → HasMore g (blocks_of t) copy a b → HasMore g (leaf.at ∷ []) copy b c → HasMore g (blocks_of t) copy a c
more_of_leaf g t leaf copy a b c h m n =
    has_more g (blocks_of t) copy a b c m (has_some g (leaf.at ∷ []) (blocks_of t) copy b c (only (blocks_of t) leaf.at (leaf_stands t leaf h)) n)

-- the writes of a tree's root
pub more_of_root : (g : ℕ) (t : Tree) (copy : ℕ) (a b c : List Event)
    → HasMore g (blocks_of t) copy a b → HasMore g (t.root.at ∷ []) copy b c → HasMore g (blocks_of t) copy a c
more_of_root g t copy a b c m n =
    let at_of : Block → BlockAt = λ l. l.at in
    has_more g (blocks_of t) copy a b c m
    (has_some g (t.root.at ∷ []) (blocks_of t) copy b c (λ x h. Contains-append_right (map at_of t.leaves.items) (t.root.at ∷ []) x h) n)

-- which blocks are those of these trees
pub among_extents : (t : Trees) (x : BlockAt) → Contains (blocks_of t.extents) x → Contains (all_blocks t) x
among_extents t x h = Contains-append_right (kept_blocks t ++ blocks_of t.roots) (blocks_of t.extents) x h

pub among_roots : (t : Trees) (x : BlockAt) → Contains (blocks_of t.roots) x → Contains (all_blocks t) x
among_roots t x h =
    Contains-append_left (kept_blocks t ++ blocks_of t.roots) (blocks_of t.extents) x (Contains-append_right (kept_blocks t) (blocks_of t.roots) x h)

among_kept : (t : Trees) (x : BlockAt) → Contains (kept_blocks t) x → Contains (all_blocks t) x
among_kept t x h =
    Contains-append_left (kept_blocks t ++ blocks_of t.roots) (blocks_of t.extents) x (Contains-append_left (kept_blocks t) (blocks_of t.roots) x h)

pub among_files : (t : Trees) (x : BlockAt) → Contains (blocks_of t.files) x → Contains (all_blocks t) x
among_files t x h =
    let front = (device_block ∷ []) ++ blocks_of t.files in
    let subvolumes = flat_map blocks_of t.subvolumes.items in
    among_kept t x (Contains-append_left (front ++ blocks_of t.sums) subvolumes x
    (Contains-append_left front (blocks_of t.sums) x (Contains-append_right (device_block ∷ []) (blocks_of t.files) x h)))

pub among_sums : (t : Trees) (x : BlockAt) → Contains (blocks_of t.sums) x → Contains (all_blocks t) x
among_sums t x h =
    let front = (device_block ∷ []) ++ blocks_of t.files in
    let subvolumes = flat_map blocks_of t.subvolumes.items in
    among_kept t x (Contains-append_left (front ++ blocks_of t.sums) subvolumes x (Contains-append_right front (blocks_of t.sums) x h))

each_of_all : (trees : List Tree) (x : BlockAt) → All (λ t. Contains (blocks_of t) x → Contains (flat_map blocks_of trees) x) trees
each_of_all [] x = All-nil (λ t. Contains (blocks_of t) x → Contains [] x)
each_of_all (t ∷ ts) x =
    let rest = flat_map blocks_of ts in
    let P : Tree → Type 0 = λ s. Contains (blocks_of s) x → Contains rest x in
    let Q : Tree → Type 0 = λ s. Contains (blocks_of s) x → Contains (blocks_of t ++ rest) x in
    All-cons Q t ts (λ c. Contains-append_left (blocks_of t) rest x c)
    (All-weaker P Q (λ s later c. Contains-append_right (blocks_of t) rest x (later c)) ts (each_of_all ts x))

one_of_all : (trees : List Tree) (tree : Tree) (x : BlockAt) → Contains trees tree → Contains (blocks_of tree) x → Contains (flat_map blocks_of trees) x
one_of_all trees tree x h c = All-contains (λ t. Contains (blocks_of t) x → Contains (flat_map blocks_of trees) x) trees tree (each_of_all trees x) h c

pub among_subvolumes : (t : Trees) (tree : Tree) (x : BlockAt) → Contains t.subvolumes.items tree → Contains (blocks_of tree) x → Contains (all_blocks t) x
among_subvolumes t tree x h c =
    let front = (device_block ∷ []) ++ blocks_of t.files in
    among_kept t x (Contains-append_right (front ++ blocks_of t.sums) (flat_map blocks_of t.subvolumes.items) x (one_of_all t.subvolumes.items tree x h c))

-- the writes of one more tree of these trees
pub more_of_tree : (g : ℕ) (t : Trees) (tree : Tree) (copy : ℕ) (a b c : List Event) → ((x : BlockAt) → Contains (blocks_of tree) x → Contains (all_blocks t) x)
    → HasMore g (all_blocks t) copy a b → HasMore g (blocks_of tree) copy b c → HasMore g (all_blocks t) copy a c
more_of_tree g t tree copy a b c among m n =
    has_more g (all_blocks t) copy a b c m (has_some g (blocks_of tree) (all_blocks t) copy b c among n)
