-- Trees as they are made anew: kept blocks, and new ones in places that were free.
use Rattle.std.proofs.Common.{◌≡◌, ◌≢◌, ℕ, ◌<◌, ◌≤◌, ◌⊎◌, Bool, List, [], ◌∷◌, ◌++◌, map, inl, inr, sym, ap, ◌∙◌, subst, append-nil, arith}
use Rattle.std.specs.List.{All, Contains, flat_map}
use Rattle.std.proofs.lemmas.List.{map-append}
use Rattle.std.proofs.lemmas.List.Concat.{flat_map-append}
use Rattle.std.proofs.lemmas.List.Elements.{All-nil, All-cons, All-append, All-push, All-contains, All-contains_itself, All-weaker, Contains-append_left, Contains-append_right}
use Rattle.std.specs.declared.vec.Vec.{Vec}
use Rattle.std.specs.declared.alloc.Global.{Global}
use Rattle.volume_maker.specs.declared.block.BlockAt.{BlockAt}
use Rattle.volume_maker.specs.declared.block.Block.{Block}
use Rattle.volume_maker.specs.declared.tree.Tree.{Tree}
use Rattle.volume_maker.specs.declared.trees.Trees.{Trees}
use Rattle.volume_maker.specs.Live.{blocks_of, device_block, kept_blocks, all_blocks, AreInChunk, AreKeptOrNew, IsUpTo, IsBefore, IsOverNoLive}
use Rattle.volume_maker.specs.Remade.{IsFree, IsBusy, NoneFreed, IsKeptOrNew, IsRemade}
use Rattle.volume_maker.proofs.Places.{busy_not_free}

-- blocks that stay
pub kept : (g : ℕ) (a : List BlockAt) (s u : List Bool) → NoneFreed s u → IsRemade g a s a u
kept g a s u taken = record {
  blocks = All-weaker (Contains a) (IsKeptOrNew g a s) (λ b c. inl c) a (All-contains_itself a);
  taken = taken;
}

-- of more old blocks
wider : (g : ℕ) (a c : List BlockAt) (s : List Bool) → ((x : BlockAt) → Contains a x → Contains c x)
    → (x : BlockAt) → IsKeptOrNew g a s x → IsKeptOrNew g c s x
wider g a c s more x (inl h) = inl (more x h)
wider g a c s more x (inr h) = inr h

-- no block yet
pub none : (g : ℕ) (a : List BlockAt) (s : List Bool) → IsRemade g a s [] s
none g a s = record { blocks = All-nil (IsKeptOrNew g a s); taken = λ number free. free }

one_kept : (g : ℕ) (a : List BlockAt) (s : List Bool) (b new : BlockAt) → new.generation ≡ g → new.number < 512 → IsFree s new.number
    → (b ≡ new) ⊎ Contains a b → IsKeptOrNew g a s b
one_kept g a s b new e within free (inl same) =
    let P : BlockAt → Type 0 = λ x. IsKeptOrNew g a s x in
    subst P (sym same) (inr (e, within, free))
one_kept g a s b new e within free (inr c) = inl c

-- one more block: one that stood before, or a new one, which is then taken
pub one_more : (g : ℕ) (a blocks : List BlockAt) (s t u : List Bool) (b new : BlockAt) → IsRemade g a s blocks t
    → new.generation ≡ g → new.number < 512 → IsFree t new.number → (b ≡ new) ⊎ Contains a b → NoneFreed t u → IsRemade g a s (blocks ++ b ∷ []) u
one_more g a blocks s t u b new m e within free h taken = record {
  blocks = All-push (IsKeptOrNew g a s) blocks b m.blocks (one_kept g a s b new e within (m.taken new.number free) h);
  taken = λ number now. m.taken number (taken number now);
}

-- the same, of the leaves of a tree
pub one_more_leaf : (g : ℕ) (a : List BlockAt) (leaves after : List Block) (s t u : List Bool) (b new : Block) → IsRemade g a s (map (λ l. l.at) leaves) t
    → after ≡ leaves ++ b ∷ [] → new.at.generation ≡ g → new.at.number < 512 → IsFree t new.at.number → (b.at ≡ new.at) ⊎ Contains a b.at → NoneFreed t u
    → IsRemade g a s (map (λ l. l.at) after) u
one_more_leaf g a leaves after s t u b new m pushed e within free h taken =
    let at_of : Block → BlockAt = λ l. l.at in
    let P : List BlockAt → Type 0 = λ l. IsRemade g a s l u in
    subst P (sym (ap (λ (l : List Block). map at_of l) pushed ∙ map-append at_of leaves (b ∷ [])))
    (one_more g a (map at_of leaves) s t u b.at new.at m e within free h taken)

-- two lists of blocks, made anew side by side
pub both : (g : ℕ) (a c b d : List BlockAt) (s u : List Bool) → IsRemade g a s b u → IsRemade g c s d u → IsRemade g (a ++ c) s (b ++ d) u
both g a c b d s u m n = record {
  blocks = All-append (IsKeptOrNew g (a ++ c) s) b d
      (All-weaker (IsKeptOrNew g a s) (IsKeptOrNew g (a ++ c) s) (wider g a (a ++ c) s (λ x h. Contains-append_left a c x h)) b m.blocks)
      (All-weaker (IsKeptOrNew g c s) (IsKeptOrNew g (a ++ c) s) (wider g c (a ++ c) s (λ x h. Contains-append_right a c x h)) d n.blocks);
  taken = m.taken;
}

none_within : (a : List BlockAt) (x : BlockAt) → Contains [] x → Contains a x
none_within a x (k, within, is) = absurd (omega arith)

-- new blocks alone, in place of others
pub all_new : (g : ℕ) (a b : List BlockAt) (s u : List Bool) → IsRemade g [] s b u → IsRemade g a s b u
all_new g a b s u m = record {
  blocks = All-weaker (IsKeptOrNew g [] s) (IsKeptOrNew g a s) (wider g [] a s (none_within a)) b m.blocks;
  taken = m.taken;
}

one_then : (g : ℕ) (a b : List BlockAt) (s t : List Bool) → All (IsKeptOrNew g a s) b → NoneFreed s t
    → (x : BlockAt) → IsKeptOrNew g b t x → IsKeptOrNew g a s x
one_then g a b s t h taken x (inl c) = All-contains (IsKeptOrNew g a s) b x h c
one_then g a b s t h taken x (inr (e, within, free)) = inr (e, within, taken x.number free)

-- one step after another
pub and_then : (g : ℕ) (a b c : List BlockAt) (s t u : List Bool) → IsRemade g a s b t → IsRemade g b t c u → IsRemade g a s c u
and_then g a b c s t u m n = record {
  blocks = All-weaker (IsKeptOrNew g b t) (IsKeptOrNew g a s) (one_then g a b s t m.blocks m.taken) c n.blocks;
  taken = λ number free. m.taken number (n.taken number free);
}

-- trees with another file tree
pub with_files : (g : ℕ) (t : Trees) (new : Tree) (s u : List Bool) → IsRemade g (blocks_of t.files) s (blocks_of new) u
    → IsRemade g (all_blocks t) s (all_blocks (record t { files = new })) u
with_files g t new s u m =
    let subvolumes = flat_map blocks_of t.subvolumes.items in
    both g _ _ _ _ s u (both g _ _ _ _ s u (both g _ _ _ _ s u (both g _ _ _ _ s u (both g _ _ _ _ s u
    (kept g (device_block ∷ []) s u m.taken) m)
    (kept g (blocks_of t.sums) s u m.taken)) (kept g subvolumes s u m.taken)) (kept g (blocks_of t.roots) s u m.taken)) (kept g (blocks_of t.extents) s u m.taken)

-- trees with another checksum tree
pub with_sums : (g : ℕ) (t : Trees) (new : Tree) (s u : List Bool) → IsRemade g (blocks_of t.sums) s (blocks_of new) u
    → IsRemade g (all_blocks t) s (all_blocks (record t { sums = new })) u
with_sums g t new s u m =
    let front = (device_block ∷ []) ++ blocks_of t.files in
    let subvolumes = flat_map blocks_of t.subvolumes.items in
    both g _ _ _ _ s u (both g _ _ _ _ s u (both g _ _ _ _ s u (both g _ _ _ _ s u
    (kept g front s u m.taken) m)
    (kept g subvolumes s u m.taken)) (kept g (blocks_of t.roots) s u m.taken)) (kept g (blocks_of t.extents) s u m.taken)

-- trees with one more subvolume
pub with_subvolume : (g : ℕ) (t : Trees) (after : Vec Tree Global) (new : Tree) (s u : List Bool) → IsRemade g [] s (blocks_of new) u
    → after.items ≡ t.subvolumes.items ++ new ∷ [] → IsRemade g (all_blocks t) s (all_blocks (record t { subvolumes = after })) u
with_subvolume g t after new s u m pushed =
    let front = (device_block ∷ []) ++ blocks_of t.files ++ blocks_of t.sums in
    let subvolumes = flat_map blocks_of t.subvolumes.items in
    let P : List BlockAt → Type 0 = λ l. IsRemade g subvolumes s l u in
    let Q : List BlockAt → Type 0 = λ l. IsRemade g l s (subvolumes ++ blocks_of new) u in
    let longer : flat_map blocks_of after.items ≡ subvolumes ++ blocks_of new =
    ap (λ (l : List Tree). flat_map blocks_of l) pushed ∙ flat_map-append blocks_of t.subvolumes.items (new ∷ [])
    ∙ ap (λ (l : List BlockAt). subvolumes ++ l) (append-nil (blocks_of new)) in
    let wide : IsRemade g subvolumes s (subvolumes ++ blocks_of new) u =
    subst Q (append-nil subvolumes) (both g subvolumes [] subvolumes (blocks_of new) s u (kept g subvolumes s u m.taken) m) in
    both g _ _ _ _ s u (both g _ _ _ _ s u (both g _ _ _ _ s u
    (kept g front s u m.taken) (subst P (sym longer) wide))
    (kept g (blocks_of t.roots) s u m.taken)) (kept g (blocks_of t.extents) s u m.taken)

-- trees with another root tree
pub with_roots : (g : ℕ) (t : Trees) (new : Tree) (s u : List Bool) → IsRemade g [] s (blocks_of new) u
    → IsRemade g (all_blocks t) s (all_blocks (record t { roots = new })) u
with_roots g t new s u m =
    both g _ _ _ _ s u (both g _ _ _ _ s u (kept g (kept_blocks t) s u m.taken) (all_new g (blocks_of t.roots) (blocks_of new) s u m))
    (kept g (blocks_of t.extents) s u m.taken)

-- trees with another extent tree
pub with_extents : (g : ℕ) (t : Trees) (new : Tree) (s u : List Bool) → IsRemade g [] s (blocks_of new) u
    → IsRemade g (all_blocks t) s (all_blocks (record t { extents = new })) u
with_extents g t new s u m =
    both g _ _ _ _ s u (kept g (kept_blocks t ++ blocks_of t.roots) s u m.taken) (all_new g (blocks_of t.extents) (blocks_of new) s u m)

one_kept_or_new : (g : ℕ) (old : List BlockAt) (s : List Bool) (b : BlockAt) → IsBefore g old → All (λ o. IsBusy s o.number) old
    → IsKeptOrNew g old s b → b.generation ≡ g → All (λ o. o.number ≢ b.number) old
one_kept_or_new g old s b before busy (inl c) e =
    let P : BlockAt → Type 0 = λ o. o.generation < g in
    let earlier : b.generation < g = All-contains P old b before c in
    absurd (omega arith)
one_kept_or_new g old s b before busy (inr (same, within, free)) e =
    let P : BlockAt → Type 0 = λ o. IsBusy s o.number in
    let Q : BlockAt → Type 0 = λ o. o.number ≢ b.number in
    let R : ℕ → Type 0 = λ n. IsFree s n in
    All-weaker P Q (λ o taken at. busy_not_free s o.number taken (subst R (sym at) free)) old busy

-- the new blocks stand where no old one does
pub over_no_live : (g : ℕ) (old : List BlockAt) (s : List Bool) (new : List BlockAt) (u : List Bool) → IsBefore g old → All (λ o. IsBusy s o.number) old
    → IsRemade g old s new u → IsOverNoLive g old new
over_no_live g old s new u before busy m =
    let Q : BlockAt → Type 0 = λ b. b.generation ≡ g → All (λ o. o.number ≢ b.number) old in
    All-weaker (IsKeptOrNew g old s) Q (λ b h. one_kept_or_new g old s b before busy h) new m.blocks

one_up_to : (g : ℕ) (old : List BlockAt) (s : List Bool) (b : BlockAt) → IsBefore g old → IsKeptOrNew g old s b → b.generation ≤ g
one_up_to g old s b before (inl c) =
    let P : BlockAt → Type 0 = λ o. o.generation < g in
    let earlier : b.generation < g = All-contains P old b before c in
    omega arith
one_up_to g old s b before (inr (same, within, free)) = omega arith

-- no later generation wrote a block
pub up_to : (g : ℕ) (old : List BlockAt) (s : List Bool) (new : List BlockAt) (u : List Bool) → IsBefore g old → IsRemade g old s new u → IsUpTo g new
up_to g old s new u before m =
    let Q : BlockAt → Type 0 = λ b. b.generation ≤ g in
    All-weaker (IsKeptOrNew g old s) Q (λ b h. one_up_to g old s b before h) new m.blocks

weaker : (g : ℕ) (old : List BlockAt) (s : List Bool) (b : BlockAt) → IsKeptOrNew g old s b → Contains old b ⊎ (b.generation ≡ g)
weaker g old s b (inl c) = inl c
weaker g old s b (inr (same, within, free)) = inr same

-- each block is an old one or a new one
pub kept_or_new : (g : ℕ) (old : List BlockAt) (s : List Bool) (new : List BlockAt) (u : List Bool) → IsRemade g old s new u → AreKeptOrNew g old new
kept_or_new g old s new u m =
    let Q : BlockAt → Type 0 = λ b. Contains old b ⊎ (b.generation ≡ g) in
    All-weaker (IsKeptOrNew g old s) Q (λ b h. weaker g old s b h) new m.blocks

one_in_chunk : (g : ℕ) (old : List BlockAt) (s : List Bool) (b : BlockAt) → AreInChunk old → IsKeptOrNew g old s b → b.number < 512
one_in_chunk g old s b chunk (inl c) = let P : BlockAt → Type 0 = λ o. o.number < 512 in All-contains P old b chunk c
one_in_chunk g old s b chunk (inr (same, within, free)) = within

-- all blocks stand in the chunk
pub in_chunk : (g : ℕ) (old : List BlockAt) (s : List Bool) (new : List BlockAt) (u : List Bool) → AreInChunk old → IsRemade g old s new u → AreInChunk new
in_chunk g old s new u chunk m =
    let Q : BlockAt → Type 0 = λ b. b.number < 512 in
    All-weaker (IsKeptOrNew g old s) Q (λ b h. one_in_chunk g old s b chunk h) new m.blocks

-- the blocks of the first trees
pub first_blocks : (P : BlockAt → Type 0) (t : Trees) → P device_block → All P (blocks_of t.files) → All P (blocks_of t.sums)
    → t.subvolumes.items ≡ [] → All P (blocks_of t.roots) → All P (blocks_of t.extents) → All P (all_blocks t)
first_blocks P t device files sums none roots extents =
    let Q : List Tree → Type 0 = λ l. All P (flat_map blocks_of l) in
    let device_all = All-cons P device_block [] device (All-nil P) in
    let subvolumes = flat_map blocks_of t.subvolumes.items in
    let front = (device_block ∷ []) ++ blocks_of t.files in
    All-append P (front ++ blocks_of t.sums ++ subvolumes ++ blocks_of t.roots) (blocks_of t.extents)
    (All-append P (front ++ blocks_of t.sums ++ subvolumes) (blocks_of t.roots)
    (All-append P (front ++ blocks_of t.sums) subvolumes
    (All-append P front (blocks_of t.sums)
    (All-append P (device_block ∷ []) (blocks_of t.files) device_all files) sums) (subst Q (sym none) (All-nil P))) roots) extents
