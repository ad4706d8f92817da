-- Lists of keys that ascend between two bounds.
use Rattle.std.proofs.Common.{◌≡◌, ℕ, zero, suc, ◌+◌, ◌-◌, ◌<◌, true, false, List, [], ◌∷◌, ◌++◌, refl, ap, ◌∙◌, arith}
use Rattle.std.proofs.lemmas.Grind.{common_steps}
use Rattle.std.specs.Prelude.{Option, Some, None}
use Rattle.verdict.specs.OnDisk.{key_below, key_same}
use Rattle.verdict.specs.declared.key.Key.{Key}
use Rattle.node_reader.specs.Places.{each_from}
use Rattle.records.specs.Seen.{Seen}
use Rattle.records.specs.Seen.Seen.{BlockSeen, PointerSeen, ItemSeen}
use Rattle.walk_laws.specs.WalkOrder.{item_keys, AllAbove, Ascend}

pub below_trans : (a b c : Key) → key_below a b ≡ true → key_below b c ≡ true → key_below a c ≡ true
below_trans a b c ab bc = grind (arith, common_steps)

pub stays_above : (low a b : Key) → key_below a low ≡ false → key_below a b ≡ true → key_below b low ≡ false
stays_above low a b above ab = grind (arith, common_steps)

pub same_above : (low a : Key) → key_same low a ≡ true → key_below a low ≡ false
same_above low a same = grind (arith, common_steps)

-- none of these stands before the low key, where there is one
abbrev pub NoneBelow : Option Key → List Key → Type 0
NoneBelow None keys = Unit {0}
NoneBelow (Some low) [] = Unit {0}
NoneBelow (Some low) (key ∷ keys) = (key_below key low ≡ false) × NoneBelow (Some low) keys

-- all of these stand before the high key, where there is one
abbrev pub AllBelow : Option Key → List Key → Type 0
AllBelow None keys = Unit {0}
AllBelow (Some high) [] = Unit {0}
AllBelow (Some high) (key ∷ keys) = (key_below key high ≡ true) × AllBelow (Some high) keys

-- keys that ascend between two bounds
pub record Lie (low high : Option Key) (keys : List Key) : Type 0 where
  pub ascend : Ascend keys
  pub from : NoneBelow low keys
  pub upto : AllBelow high keys

-- the keys of two lists of records
pub item_keys-append : (first later : List Seen) → item_keys (first ++ later) ≡ item_keys first ++ item_keys later
item_keys-append [] later = refl
item_keys-append (BlockSeen block ∷ more) later = item_keys-append more later
item_keys-append (PointerSeen pointer ∷ more) later = item_keys-append more later
item_keys-append (ItemSeen one ∷ more) later = ap (λ ks. one.key ∷ ks) (item_keys-append more later)

above_joined : (key : Key) (first later : List Key) → AllAbove key first → AllAbove key later → AllAbove key (first ++ later)
above_joined key [] later a b = b
above_joined key (k ∷ first) later a b = (a.0, above_joined key first later a.1 b)

-- a key before another is before all that are not before that one
above_from : (key middle : Key) (keys : List Key) → key_below key middle ≡ true → NoneBelow (Some middle) keys → AllAbove key keys
above_from key middle [] below from = tt
above_from key middle (k ∷ keys) below from = (over_middle key middle k below from.0, above_from key middle keys below from.1)
  where
    over_middle : (a m k : Key) → key_below a m ≡ true → key_below k m ≡ false → key_below a k ≡ true
    over_middle a m k below above = grind (arith, common_steps)

ascend_joined : (middle : Key) (first later : List Key) → Ascend first → AllBelow (Some middle) first → NoneBelow (Some middle) later → Ascend later → Ascend (first ++ later)
ascend_joined middle [] later a upto from b = b
ascend_joined middle (k ∷ first) later a upto from b =
    (above_joined k first later a.0 (above_from k middle later upto.0 from), ascend_joined middle first later a.1 upto.1 from b)

from_joined : (low : Option Key) (first later : List Key) → NoneBelow low first → NoneBelow low later → NoneBelow low (first ++ later)
from_joined None first later a b = tt
from_joined (Some low) [] later a b = b
from_joined (Some low) (k ∷ first) later a b = (a.0, from_joined (Some low) first later a.1 b)

upto_joined : (high : Option Key) (first later : List Key) → AllBelow high first → AllBelow high later → AllBelow high (first ++ later)
upto_joined None first later a b = tt
upto_joined (Some high) [] later a b = b
upto_joined (Some high) (k ∷ first) later a b = (a.0, upto_joined (Some high) first later a.1 b)

-- what is below a key is below a higher one
upto_more : (middle : Key) (high : Option Key) (keys : List Key) → AllBelow high (middle ∷ []) → AllBelow (Some middle) keys → AllBelow high keys
upto_more middle None keys below upto = tt
upto_more middle (Some high) [] below upto = tt
upto_more middle (Some high) (k ∷ keys) below upto = (below_trans k middle high upto.0 below.0, upto_more middle (Some high) keys below upto.1)

-- what is not below a key is not below a lower one
from_less : (low middle : Key) (keys : List Key) → key_below low middle ≡ true → NoneBelow (Some middle) keys → NoneBelow (Some low) keys
from_less low middle [] below from = tt
from_less low middle (k ∷ keys) below from = (not_under low middle k below from.0, from_less low middle keys below from.1)
  where
    not_under : (l m k : Key) → key_below l m ≡ true → key_below k m ≡ false → key_below k l ≡ false
    not_under l m k below above = grind (arith, common_steps)

-- keys below a middle one, and behind them keys from it on
pub lie_joined : (low middle : Key) (high : Option Key) (first later : List Key) → key_below low middle ≡ true → AllBelow high (middle ∷ [])
    → Lie (Some low) (Some middle) first → Lie (Some middle) high later → Lie (Some low) high (first ++ later)
lie_joined low middle high first later below under a b = record {
  ascend = ascend_joined middle first later a.ascend a.upto b.from b.ascend;
  from = from_joined (Some low) first later a.from (from_less low middle later below b.from);
  upto = upto_joined high first later (upto_more middle high first under a.upto) b.upto;
}

-- a key before the first of some places is before what stands at all of them, where each is before the next
above_each : (entry : ℕ → Key) (key : Key) (at n : ℕ) → key_below key (entry at) ≡ true → ((place : ℕ) → at < place → place < at + n → key_below (entry (place - 1)) (entry place) ≡ true) → AllAbove key (each_from entry at n)
unfolding each_from
above_each entry key at zero below next = tt
above_each entry key at (suc zero) below next = (below, tt)
above_each entry key at (suc (suc n)) below next =
    let step : key_below (entry at) (entry (suc at)) ≡ true = ap (λ p. key_below (entry p) (entry (suc at))) (omega arith) ∙ next (suc at) (omega arith) (omega arith) in
    (below, above_each entry key (suc at) (suc n) (below_trans key (entry at) (entry (suc at)) below step) (λ place low high. next place (omega arith) (omega arith)))

ascend_each : (entry : ℕ → Key) (at n : ℕ) → ((place : ℕ) → at < place → place < at + n → key_below (entry (place - 1)) (entry place) ≡ true) → Ascend (each_from entry at n)
unfolding each_from
ascend_each entry at zero next = tt
ascend_each entry at (suc zero) next = (tt, tt)
ascend_each entry at (suc (suc n)) next =
    let step : key_below (entry at) (entry (suc at)) ≡ true = ap (λ p. key_below (entry p) (entry (suc at))) (omega arith) ∙ next (suc at) (omega arith) (omega arith) in
    (above_each entry (entry at) (suc at) (suc n) step (λ place low high. next place (omega arith) (omega arith)), ascend_each entry (suc at) (suc n) (λ place low high. next place (omega arith) (omega arith)))

from_each : (low : Option Key) (entry : ℕ → Key) (at n : ℕ) → (0 < n → NoneBelow low (entry at ∷ [])) → ((place : ℕ) → at < place → place < at + n → key_below (entry (place - 1)) (entry place) ≡ true) → NoneBelow low (each_from entry at n)
unfolding each_from
from_each None entry at n first next = tt
from_each (Some low) entry at zero first next = tt
from_each (Some low) entry at (suc zero) first next = ((first (omega arith)).0, tt)
from_each (Some low) entry at (suc (suc n)) first next =
    let here : key_below (entry at) low ≡ false = (first (omega arith)).0 in
    let step : key_below (entry at) (entry (suc at)) ≡ true = ap (λ p. key_below (entry p) (entry (suc at))) (omega arith) ∙ next (suc at) (omega arith) (omega arith) in
    (here, from_each (Some low) entry (suc at) (suc n) (λ some. (stays_above low (entry at) (entry (suc at)) here step, tt)) (λ place low_ high. next place (omega arith) (omega arith)))

upto_each : (high : Option Key) (entry : ℕ → Key) (at n : ℕ) → (0 < n → AllBelow high (entry (at + n - 1) ∷ [])) → ((place : ℕ) → at < place → place < at + n → key_below (entry (place - 1)) (entry place) ≡ true) → AllBelow high (each_from entry at n)
unfolding each_from
upto_each None entry at n last next = tt
upto_each (Some high) entry at zero last next = tt
upto_each (Some high) entry at (suc zero) last next =
    let here : at + 1 - 1 ≡ at = omega arith in
    ((rw here at last (omega arith)).0, tt)
upto_each (Some high) entry at (suc (suc n)) last next =
    let step : key_below (entry at) (entry (suc at)) ≡ true = ap (λ p. key_below (entry p) (entry (suc at))) (omega arith) ∙ next (suc at) (omega arith) (omega arith) in
    let end : at + suc (suc n) - 1 ≡ suc at + suc n - 1 = omega arith in
    let rest : AllBelow (Some high) (each_from entry (suc at) (suc n)) = upto_each (Some high) entry (suc at) (suc n) (λ some. rw end at last (omega arith)) (λ place low high_. next place (omega arith) (omega arith)) in
    (below_trans (entry at) (entry (suc at)) high step rest.0, rest)

-- keys at places lie between two bounds where each is before the next, the first is from the low one on and the last below the high one
pub lie_each : (low high : Option Key) (entry : ℕ → Key) (n : ℕ) → (0 < n → NoneBelow low (entry 0 ∷ [])) → (0 < n → AllBelow high (entry (0 + n - 1) ∷ []))
    → ((place : ℕ) → 0 < place → place < 0 + n → key_below (entry (place - 1)) (entry place) ≡ true) → Lie low high (each_from entry 0 n)
lie_each low high entry n first last next = record { ascend = ascend_each entry 0 n next; from = from_each low entry 0 n first next; upto = upto_each high entry 0 n last next }
