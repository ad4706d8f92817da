-- What is made of records are the live pairs of the blocks among them.
use Rattle.std.proofs.Common.{◌≡◌, Bool, true, false, List, [], ◌∷◌, ◌++◌, fold, refl, ap, sym, ◌∙◌, append_assoc, if◌then◌else◌}
use Rattle.verdict.specs.Rules.{no_key}
use Rattle.verdict.specs.declared.key.Key.{Key}
use Rattle.live_index.specs.declared.live.Live.{Live}
use Rattle.records.specs.Seen.{Seen}
use Rattle.records.specs.Seen.Seen.{BlockSeen, PointerSeen, ItemSeen}
use Rattle.records.specs.declared.rec.WalkedBlock.{WalkedBlock}
use Rattle.tree_laws.specs.LivePairs.{greater_key, is_beside, last_key, live_in, live_of, records_in}
use Rattle.live_maker.specs.Opened.{closes, finished, last_below, no_lives, opened, raised, with_key, with_record, LivesMade}
use Rattle.live_maker.proofs.Behind.{below_closed, below_more}
use Rattle.live_maker.proofs.Greater.{greater_assoc, greater_comm, greater_none, none_greater}

-- the greatest key of the items among records before the first block
abbrev own_key : List Seen → Key
own_key [] = no_key
own_key (BlockSeen block ∷ more) = no_key
own_key (PointerSeen one ∷ more) = own_key more
own_key (ItemSeen item ∷ more) = greater_key item.key (own_key more)

-- the open pairs of the blocks among records
abbrev open_in : List Seen → List Live
open_in [] = []
open_in (BlockSeen block ∷ more) = raised (own_key more) (opened block) ∷ open_in more
open_in (PointerSeen one ∷ more) = open_in more
open_in (ItemSeen item ∷ more) = open_in more

-- a key goes to the pair that came last
pub key_last : (key : Key) (front : List Live) (live : Live) → with_key key (front ++ live ∷ []) ≡ front ++ raised key live ∷ []
key_last key [] live = refl
key_last key (one ∷ []) live = refl
key_last key (one ∷ next ∷ more) live = ap (λ l. one ∷ l) (key_last key (next ∷ more) live)

raised_none : (live : Live) → raised no_key live ≡ live
raised_none live = ap (λ k. record live { last = k }) (none_greater live.last)

raised_twice : (a b : Key) (live : Live) → raised b (raised a live) ≡ raised (greater_key a b) live
raised_twice a b live = ap (λ k. record live { last = k }) (sym (greater_assoc b a live.last) ∙ ap (λ k. greater_key k live.last) (greater_comm b a))

-- records behind a block change its own pair alone, until the next block
held_behind : (front : List Live) (live : Live) (records : List Seen)
    → fold with_record (front ++ live ∷ []) records ≡ front ++ raised (own_key records) live ∷ open_in records
held_behind front live [] = ap (λ l. front ++ l ∷ []) (sym (raised_none live))
held_behind front live (BlockSeen block ∷ more) =
    held_behind (front ++ live ∷ []) (opened block) more
    ∙ append_assoc front (live ∷ []) (raised (own_key more) (opened block) ∷ open_in more)
    ∙ ap (λ l. front ++ l ∷ open_in (BlockSeen block ∷ more)) (sym (raised_none live))
held_behind front live (PointerSeen one ∷ more) = held_behind front live more
held_behind front live (ItemSeen item ∷ more) =
    ap (λ l. fold with_record l more) (key_last item.key front live)
    ∙ held_behind front (raised item.key live) more
    ∙ ap (λ l. front ++ l ∷ open_in more) (raised_twice item.key (own_key more) live)

held_of : (records : List Seen) → fold with_record no_lives records ≡ open_in records
held_of [] = refl
held_of (BlockSeen block ∷ more) = held_behind [] (opened block) more
held_of (PointerSeen one ∷ more) = held_of more
held_of (ItemSeen item ∷ more) = held_of more

-- the records of a block, where the first is that of a block
in_closed : (block one : WalkedBlock) (more : List Seen) → is_beside block (BlockSeen one) ≡ true → last_key (records_in block (BlockSeen one ∷ more)) ≡ no_key
unfolding last_key records_in
in_closed block one more is = rw is refl

in_more : (block one : WalkedBlock) (more : List Seen) → is_beside block (BlockSeen one) ≡ false
    → last_key (records_in block (BlockSeen one ∷ more)) ≡ last_key (records_in block more)
unfolding last_key records_in
in_more block one more is = rw is refl

last_block : (block : WalkedBlock) (live : Live) (one : WalkedBlock) (more : List Seen) (b : Bool) → is_beside block (BlockSeen one) ≡ b → closes live (opened one) ≡ b
    → greater_key (own_key more) (last_below live (open_in more)) ≡ last_key (records_in block more)
    → greater_key no_key (last_below live (open_in (BlockSeen one ∷ more))) ≡ last_key (records_in block (BlockSeen one ∷ more))
last_block block live one more true is here so =
    none_greater (last_below live (open_in (BlockSeen one ∷ more)))
    ∙ below_closed live (raised (own_key more) (opened one)) (open_in more) here
    ∙ sym (in_closed block one more is)
last_block block live one more false is here so =
    none_greater (last_below live (open_in (BlockSeen one ∷ more)))
    ∙ below_more live (raised (own_key more) (opened one)) (open_in more) here
    ∙ ap (λ k. greater_key k (last_below live (open_in more))) (greater_none (own_key more))
    ∙ so
    ∙ sym (in_more block one more is)

same_test : (block one : WalkedBlock) (live : Live) → live.tree ≡ block.tree → live.level ≡ block.level → closes live (opened one) ≡ is_beside block (BlockSeen one)
same_test block one live t l = rw (t, l) refl

-- the greatest key of a block is that of its own items and of what is handed up to it
last_of : (block : WalkedBlock) (live : Live) (records : List Seen) → live.tree ≡ block.tree → live.level ≡ block.level
    → greater_key (own_key records) (last_below live (open_in records)) ≡ last_key (records_in block records)
unfolding last_below last_key records_in
last_of block live [] t l = none_greater no_key
last_of block live (BlockSeen one ∷ more) t l =
    last_block block live one more (is_beside block (BlockSeen one)) refl (same_test block one live t l) (last_of block live more t l)
last_of block live (PointerSeen one ∷ more) t l = last_of block live more t l
last_of block live (ItemSeen item ∷ more) t l =
    greater_assoc item.key (own_key more) (last_below live (open_in more)) ∙ ap (greater_key item.key) (last_of block live more t l)

-- the pair of a block once all are closed
made_one : (block : WalkedBlock) (more : List Seen)
    → raised (last_below (opened block) (open_in more)) (raised (own_key more) (opened block)) ≡ live_of block more
made_one block more =
    ap (λ k. record (opened block) { last = k })
    (ap (greater_key (last_below (opened block) (open_in more))) (greater_none (own_key more))
    ∙ greater_comm (last_below (opened block) (open_in more)) (own_key more)
    ∙ last_of block (opened block) more refl refl)

-- a last key of its own is nothing to what is handed up to a pair
below_raised : (key : Key) (live : Live) (more : List Live) → last_below (raised key live) more ≡ last_below live more
unfolding last_below
below_raised key live [] = refl
below_raised key live (one ∷ more) = ap (λ k. if closes live one then no_key else greater_key one.last k) (below_raised key live more)

made : (records : List Seen) → finished (open_in records) ≡ live_in records
unfolding finished live_in
made [] = refl
made (BlockSeen block ∷ more) =
    ap (λ k. raised k (raised (own_key more) (opened block)) ∷ finished (open_in more)) (below_raised (own_key more) (opened block) (open_in more))
    ∙ ap (λ l. l ∷ finished (open_in more)) (made_one block more)
    ∙ ap (λ l. live_of block more ∷ l) (made more)
made (PointerSeen one ∷ more) = made more
made (ItemSeen item ∷ more) = made more

pub lives_made : LivesMade
lives_made records = ap finished (held_of records) ∙ made records
