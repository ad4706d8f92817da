-- Live pairs by the greatest keys that are held.
use Rattle.std.proofs.Common.{◌≡◌, ℕ, ◌+◌, ◌<◌, List, [], ◌∷◌, ◌++◌, length, take, get_or, Option, Some, None, ap, refl, sym, ◌∙◌}
use Rattle.std.specs.Prelude.{option_to_list}
use Rattle.std.specs.List.{cons_option, filter_map}
use Rattle.std.proofs.lemmas.List.{append_assoc, take_more}
use Rattle.std.proofs.lemmas.List.Elements.{filter_map-append}
use Rattle.verdict.specs.declared.key.Key.{Key}
use Rattle.live_index.specs.Pairs.{Pairs}
use Rattle.node_reader.specs.declared.expect.Expect.{Expect}
use Rattle.records.specs.declared.rec.WalkedBlock.{WalkedBlock}
use Rattle.tree_laws.specs.declared.told.Ended.{Ended}
use Rattle.tree_laws.specs.declared.told.Met.{Met}
use Rattle.tree_laws.specs.Known.{blocks_met}
use Rattle.tree_change.specs.Leaves.{lives_by, shifted_among, shifted_by_one}
use Rattle.tree_change.specs.Walks.{last_at, live_with, lives_of, shifted_of}

-- the greatest keys are as they were told: so are the live pairs by them
pub lives_alike : (lasts : ℕ → Key) (ended : List Ended) (blocks : List WalkedBlock) → ((address : ℕ) → lasts address ≡ last_at ended address)
    → lives_by lasts blocks ≡ lives_of ended blocks
lives_alike lasts ended [] same = refl
lives_alike lasts ended (block ∷ blocks) same =
    ap (λ last. live_with block last ∷ lives_by lasts blocks) (same block.address)
    ∙ ap (λ more. live_with block (last_at ended block.address) ∷ more) (lives_alike lasts ended blocks same)

pub shifted_alike : (pairs : Pairs) (lasts : ℕ → Key) (ended : List Ended) (met : List Expect) → ((address : ℕ) → lasts address ≡ last_at ended address)
    → shifted_among pairs lasts met ≡ shifted_of pairs ended met
shifted_alike pairs lasts ended [] same = refl
shifted_alike pairs lasts ended (e ∷ met) same = rw (same e.address, shifted_alike pairs lasts ended met same) refl

-- one block more, where it may give a pair
one : {B : Type 0} (some : Option B) (h : Option B) → some ≡ h → option_to_list some ≡ filter_map (λ (x : Option B). x) (h ∷ [])
one None h same = rw (sym same) refl
one (Some x) h same = rw (sym same) refl

pub some_more : {A B : Type 0} (f : A → Option B) (old now new : List B) (some : Option B) (xs : List A) (i : ℕ) (d : A) → i < length xs
    → now ≡ old ++ filter_map f (take i xs) → some ≡ f (get_or xs i d) → new ≡ now ++ option_to_list some
    → new ≡ old ++ filter_map f (take (i + 1) xs)
some_more f old now new some xs i d inside so is more =
    more ∙ ap (λ l. l ++ option_to_list some) so ∙ append_assoc old (filter_map f (take i xs)) (option_to_list some)
    ∙ ap (λ l. old ++ (filter_map f (take i xs) ++ l)) (one some (f (get_or xs i d)) is)
    ∙ ap (λ l. old ++ l) (sym (ap (filter_map f) (take_more xs i d inside) ∙ filter_map-append f (take i xs) (get_or xs i d ∷ [])))

-- the pairs of blocks that were met, by what is held of them
pub shifted_met : (pairs : Pairs) (lasts : ℕ → Key) (met : List Met)
    → filter_map (λ (one : Met). shifted_by_one pairs lasts one.expect) met ≡ shifted_among pairs lasts (blocks_met met)
shifted_met pairs lasts [] = refl
shifted_met pairs lasts (one ∷ met) = ap (cons_option (shifted_by_one pairs lasts one.expect)) (shifted_met pairs lasts met)
