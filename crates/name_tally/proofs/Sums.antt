-- Slots with more, and what slots come to.
use Rattle.std.proofs.Common.{◌≡◌, ℕ, zero, suc, ◌+◌, ◌-◌, ◌<◌, ◌≤◌, ◌==◌, ◌&&◌, Bool, true, false, cond, List, [], ◌∷◌, ◌++◌, length, get_or, set, drop, refl, ap, sym, ◌∙◌, subst, append_assoc, append-nil, arith}
use Rattle.std.specs.Prelude.{nat_lt}
use Rattle.std.specs.List.{flat_map}
use Rattle.std.proofs.Math.Path.{fun_ext}
use Rattle.std.proofs.lemmas.List.{at_drop_more, at_drop_all}
use Rattle.verdict.specs.declared.kinds.TheConstants.{INODE_ITEM}
use Rattle.recon_crc.specs.Checksum.{name_hash_of}
use Rattle.accounts.specs.declared.account.Account.{Account}
use Rattle.accounts.specs.declared.postings.Posting.{Posting}
use Rattle.accounts.specs.declared.tally.Tally.{Tally}
use Rattle.accounts.specs.Apart.{AddsUp}
use Rattle.accounts.specs.Kinds.{inode, inode_type, key_by, link, name_entry, balances}
use Rattle.accounts.specs.Sums.{added, is_same, total_of}
use Rattle.accounts.specs.Tally.{Sums, difference, kept, kept_sums, sums_in, with_postings}
use Rattle.accounts.proofs.Apart.{adds_exactly, more_alike}
use Rattle.accounts.proofs.Kept.{balanced_kept, kept_more, total_joined, with_more}
use Rattle.accounts.proofs.Same.{same_account}
use Rattle.name_tally.specs.declared.slot.NameSlot.{NameSlot}
use Rattle.name_tally.specs.Names.{entry_of, leads, link_of, name_of, slot_postings, slots_sums}
use Rattle.name_tally.specs.Slots.{AreSame, HasSums, IsFree, KeepsBut, KeepsUp, slot_sums}
use Rattle.accounts.specs.Lent.{to}

-- ---- sums with more

pub same_then : (old mid new : Sums) → AreSame old mid → AreSame mid new → AreSame old new
same_then old mid new one two = λ a n. two a n ∙ one a n

pub keeps_none : (old new : Sums) → AreSame old new → KeepsUp old new []
unfolding total_of
keeps_none old new is = λ a. ap (kept a.kind) (fun_ext (λ n. (let s = is a n in let e : new a n ≡ old a n + 0 = omega (arith, s) in e)))

pub keeps_same : (old mid new : Sums) (given : List Posting) → AreSame old mid → KeepsUp mid new given → KeepsUp old new given
keeps_same old mid new given same is = λ a. is a ∙ ap (kept a.kind) (fun_ext (λ n. ap (λ k. k + total_of given a n) (same a n)))

pub keeps_given : (old new : Sums) (given other : List Posting) → KeepsUp old new given
    → ((a : Account) (n : ℕ) → total_of other a n ≡ total_of given a n) → KeepsUp old new other
keeps_given old new given other is same = λ a. is a ∙ ap (kept a.kind) (fun_ext (λ n. ap (λ k. old a n + k) (sym (same a n))))

pub adds_zero : (sums : Sums) (list given : List Posting) → ((a : Account) (n : ℕ) → total_of given a n ≡ 0)
    → AddsUp sums sums list list given
adds_zero sums list given none = adds_exactly sums sums list list given (λ a n. (let z = none a n in
    let e : sums a n + total_of list a n ≡ (sums a n + total_of list a n) + total_of given a n = omega (arith, z) in e))

-- ---- two sums of an account whose difference counts

abbrev pub pair : Account → ℕ → ℕ → List Posting
pair account x y = to account 0 x ∷ to account 1 y ∷ []

abbrev pub at_pair : Bool → ℕ → ℕ → ℕ → ℕ
at_pair same x y n = cond (same && (0 == n && nat_lt n 9)) x 0 + (cond (same && (1 == n && nat_lt n 9)) y 0 + 0)

pub pair_total : (account : Account) (x y : ℕ) (a : Account) (n : ℕ) → total_of (pair account x y) a n ≡ at_pair (is_same account a) x y n
unfolding total_of added
pair_total account x y a n = refl

no_amount : (b : Bool) → ◌≡◌ {A = ℕ} (cond b 0 0) 0
no_amount true = refl
no_amount false = refl

pub pair_none : (account : Account) (x y : ℕ) → x ≡ 0 → y ≡ 0 → (a : Account) (n : ℕ) → total_of (pair account x y) a n ≡ 0
pair_none account x y first second a n =
    pair_total account x y a n
    ∙ (λ i. at_pair (is_same account a) (first i) (second i) n)
    ∙ (let u = no_amount (is_same account a && (0 == n && nat_lt n 9)) in
    let v = no_amount (is_same account a && (1 == n && nat_lt n 9)) in
    omega (arith, u, v))

alike_by : (f g : ℕ → ℕ) → f 0 - f 1 ≡ g 0 - g 1 → f 1 - f 0 ≡ g 1 - g 0 → difference f ≡ difference g
alike_by f g first second = λ i n. cond (n == 0) (first i) (cond (n == 1) (second i) 0)

moved_at : (b : Bool) (kind x y u v p q : ℕ) → (b ≡ true → balances kind ≡ true) → u + (y + q) ≡ (x + p) + v
    → kept kind (at_pair b u v) ≡ kept kind (λ n. at_pair b x y n + at_pair b p q n)
moved_at true kind x y u v p q on is =
    balanced_kept kind (at_pair true u v) (on refl)
    ∙ alike_by (at_pair true u v) (λ n. at_pair true x y n + at_pair true p q n) (omega (arith, is)) (omega (arith, is))
    ∙ sym (balanced_kept kind (λ n. at_pair true x y n + at_pair true p q n) (on refl))
moved_at false kind x y u v p q on is = ap (kept kind)
    (fun_ext (λ n. (let e : at_pair false u v n ≡ at_pair false x y n + at_pair false p q n = omega arith in e)))

-- the pair has u and v in place of x and y, and p and q were given
pair_moved : (account : Account) (x y u v p q : ℕ) → balances account.kind ≡ true → u + (y + q) ≡ (x + p) + v
    → KeepsUp (total_of (pair account x y)) (total_of (pair account u v)) (pair account p q)
pair_moved account x y u v p q on is = λ a.
    ap (kept a.kind) (fun_ext (pair_total account u v a))
    ∙ moved_at (is_same account a) a.kind x y u v p q
    (λ same. ap (λ (z : Account). balances z.kind) (sym (same_account account a same)) ∙ on) is
    ∙ ap (kept a.kind) (fun_ext (λ n. (λ i. sym (pair_total account x y a n) i + sym (pair_total account p q a n) i)))

-- ---- a slot

abbrev pub entry_pair : NameSlot → List Posting
entry_pair slot = pair (entry_of slot) slot.hashed slot.indexed

abbrev pub link_pair : NameSlot → List Posting
link_pair slot = pair (link_of slot) slot.listed slot.linked

-- entries that lead to an inode, no more than none
abbrev pub leads_of : NameSlot → ℕ → List Posting
leads_of slot count = leads slot.tree slot.ino slot.sort count

abbrev pub led_pair : NameSlot → List Posting
led_pair slot = leads_of slot slot.led

pub leads_none : (tree ino sort count : ℕ) → count ≡ 0 → (a : Account) (n : ℕ) → total_of (leads tree ino sort count) a n ≡ 0
unfolding total_of added
leads_none tree ino sort count is a n =
    ap (λ c. total_of (leads tree ino sort c) a n) is
    ∙ (let u = no_amount (is_same (inode tree ino) a && (1 == n && nat_lt n 9)) in
    let v = no_amount (is_same (inode_type tree ino sort) a && (0 == n && nat_lt n 9)) in
    omega (arith, u, v))

more_of : (b : Bool) (x y : ℕ) → cond b (x + y) 0 ≡ cond b x 0 + cond b y 0
more_of true x y = refl
more_of false x y = refl

leads_more : (tree ino sort x y : ℕ) (a : Account) (n : ℕ)
    → total_of (leads tree ino sort (x + y)) a n ≡ total_of (leads tree ino sort x) a n + total_of (leads tree ino sort y) a n
unfolding total_of added
leads_more tree ino sort x y a n =
    let u = more_of (is_same (inode tree ino) a && (1 == n && nat_lt n 9)) x y in
    let v = more_of (is_same (inode_type tree ino sort) a && (0 == n && nat_lt n 9)) x y in
    omega (arith, u, v)

pub slot_total : (slot : NameSlot) (a : Account) (n : ℕ)
    → slot_sums slot a n ≡ total_of (entry_pair slot) a n + (total_of (link_pair slot) a n + total_of (led_pair slot) a n)
unfolding slot_postings
slot_total slot a n =
    total_joined (entry_pair slot) (link_pair slot ++ led_pair slot) a n
    ∙ ap (λ k. total_of (entry_pair slot) a n + k) (total_joined (link_pair slot) (led_pair slot) a n)

pub free_slot : (slot : NameSlot) → IsFree slot → (a : Account) (n : ℕ) → slot_sums slot a n ≡ 0
free_slot slot is a n =
    let t = slot_total slot a n in
    let x = pair_none (entry_of slot) slot.hashed slot.indexed is.hashed is.indexed a n in
    let y = pair_none (link_of slot) slot.listed slot.linked is.listed is.linked a n in
    let z = leads_none slot.tree slot.ino slot.sort slot.led is.led a n in
    omega (arith, t, x, y, z)

pub same_free : (old new : NameSlot) → IsFree old → HasSums old new → AreSame (slot_sums old) (slot_sums new)
same_free old new is has = λ a n.
    free_slot new (record {
      hashed = has.hashed ∙ is.hashed;
      indexed = has.indexed ∙ is.indexed;
      listed = has.listed
          ∙ is.listed;
      linked = has.linked ∙ is.linked;
      led = has.led ∙ is.led;
    }) a n
    ∙ sym (free_slot old is a n)

abbrev pub with_sort : NameSlot → ℕ → NameSlot
with_sort slot sort = record {
  tree = slot.tree;
  ino = slot.ino;
  dir = slot.dir;
  index = slot.index;
  name = slot.name;
  size = slot.size;
  sort = sort;
  hashed = slot.hashed;
  indexed = slot.indexed;
  listed = slot.listed;
  linked = slot.linked;
  led = slot.led;
}

abbrev pub with_index : NameSlot → ℕ → NameSlot
with_index slot index = record {
  tree = slot.tree;
  ino = slot.ino;
  dir = slot.dir;
  index = index;
  name = slot.name;
  size = slot.size;
  sort = slot.sort;
  hashed = slot.hashed;
  indexed = slot.indexed;
  listed = slot.listed;
  linked = slot.linked;
  led = slot.led;
}

abbrev pub with_sums : NameSlot → ℕ → ℕ → ℕ → ℕ → ℕ → NameSlot
with_sums slot hashed indexed listed linked led = record {
  tree = slot.tree;
  ino = slot.ino;
  dir = slot.dir;
  index = slot.index;
  name = slot.name;
  size = slot.size;
  sort = slot.sort;
  hashed = hashed;
  indexed = indexed;
  listed = listed;
  linked = linked;
  led = led;
}

pub same_sort : (slot : NameSlot) (sort : ℕ) → slot.hashed ≡ 0 → slot.indexed ≡ 0 → slot.led ≡ 0
    → AreSame (slot_sums slot) (slot_sums (with_sort slot sort))
same_sort slot sort first second third = λ a n. (let
    t = slot_total (with_sort slot sort) a n in let
    s = slot_total slot a n in let
    x = pair_none (entry_of (with_sort slot sort)) slot.hashed slot.indexed first second a n in let
    y = pair_none (entry_of slot) slot.hashed slot.indexed first second a n in let
    u = leads_none slot.tree slot.ino sort slot.led third a n in let
    v = leads_none slot.tree slot.ino slot.sort slot.led third a n in
    omega (arith, t, s, x, y, u, v))

pub same_index : (slot : NameSlot) (index : ℕ) → slot.listed ≡ 0 → slot.linked ≡ 0
    → AreSame (slot_sums slot) (slot_sums (with_index slot index))
same_index slot index first second = λ a n. (let
    t = slot_total (with_index slot index) a n in let
    s = slot_total slot a n in let
    x = pair_none (link_of (with_index slot index)) slot.listed slot.linked first second a n in let
    y = pair_none (link_of slot) slot.listed slot.linked first second a n in
    omega (arith, t, s, x, y))

-- what leads to the inode is taken out
pub led_taken : (slot : NameSlot)
    → KeepsBut (slot_sums slot) (slot_sums (with_sums slot slot.hashed slot.indexed slot.listed slot.linked 0)) (led_pair slot) []
unfolding total_of
led_taken slot = λ a. ap (kept a.kind) (fun_ext (λ n. (let
    new : NameSlot = with_sums slot slot.hashed slot.indexed slot.listed slot.linked 0 in let
    t = slot_total slot a n in let
    u = slot_total new a n in let
    z = leads_none slot.tree slot.ino slot.sort 0 refl a n in let
    e : slot_sums new a n + total_of (led_pair slot) a n ≡ slot_sums slot a n + 0 = omega (arith, t, u, z) in e)))

pub none_taken : (slot : NameSlot) → KeepsBut (slot_sums slot) (slot_sums slot) (leads_of slot 0) []
unfolding total_of
none_taken slot = λ a. ap (kept a.kind) (fun_ext (λ n. (let
    z = leads_none slot.tree slot.ino slot.sort 0 refl a n in let
    e : slot_sums slot a n + total_of (leads_of slot 0) a n ≡ slot_sums slot a n + 0 = omega (arith, z) in e)))

-- a slot has other sums, and what was given makes the difference
pub slot_moved : (slot : NameSlot) (hashed indexed listed linked p q r s more : ℕ)
    → hashed + (slot.indexed + q) ≡ (slot.hashed + p) + indexed
    → listed + (slot.linked + s) ≡ (slot.listed + r) + linked
    → KeepsUp (slot_sums slot) (slot_sums (with_sums slot hashed indexed listed linked (slot.led + more)))
    (pair (entry_of slot) p q ++ (pair (link_of slot) r s ++ leads_of slot more))
slot_moved slot hashed indexed listed linked p q r s more one two = λ a. (let
    new : NameSlot = with_sums slot hashed indexed listed linked (slot.led + more) in let
    x : ℕ → ℕ = total_of (entry_pair slot) a in let
    y : ℕ → ℕ = total_of (link_pair slot) a in let
    z : ℕ → ℕ = total_of (led_pair slot) a in let
    u : ℕ → ℕ = total_of (entry_pair new) a in let
    v : ℕ → ℕ = total_of (link_pair new) a in let
    w : ℕ → ℕ = total_of (led_pair new) a in let
    g : ℕ → ℕ = total_of (pair (entry_of slot) p q) a in let
    h : ℕ → ℕ = total_of (pair (link_of slot) r s) a in let
    l : ℕ → ℕ = total_of (leads_of slot more) a in
    ap (kept a.kind) (fun_ext (slot_total new a))
    ∙ more_alike a.kind u (λ n. x n + g n) (λ n. v n + w n)
    (pair_moved (entry_of slot) slot.hashed slot.indexed hashed indexed p q refl one a)
    ∙ ap (kept a.kind) (fun_ext (λ n. (let e : (x n + g n) + (v n + w n) ≡ v n + ((x n + g n) + w n) = omega arith in e)))
    ∙ more_alike a.kind v (λ n. y n + h n) (λ n. (x n + g n) + w n)
    (pair_moved (link_of slot) slot.listed slot.linked listed linked r s refl two a)
    ∙ ap (kept a.kind) (fun_ext (λ n. (let
    t = slot_total slot a n in let
    m = leads_more slot.tree slot.ino slot.sort slot.led more a n in let
    j = total_joined (pair (entry_of slot) p q) (pair (link_of slot) r s ++ leads_of slot more) a n in let
    k = total_joined (pair (link_of slot) r s) (leads_of slot more) a n in let
    e : (y n + h n) + ((x n + g n) + w n)
    ≡ slot_sums slot a n + total_of (pair (entry_of slot) p q ++ (pair (link_of slot) r s ++ leads_of slot more)) a n = omega
    (arith, t, m, j, k) in e))))

dropped : (b : Bool) (rest more : ℕ) → rest ≡ more → rest ≡ cond b 0 0 + more
dropped true rest more is = omega (arith, is)
dropped false rest more is = omega (arith, is)

pub moved_hashed : (slot : NameSlot) (hashed indexed led : ℕ) → led ≡ slot.led + 1 → hashed + slot.indexed ≡ (slot.hashed + 1) + indexed
    → KeepsUp (slot_sums slot) (slot_sums (with_sums slot hashed indexed slot.listed slot.linked led))
    (to (entry_of slot) 0 1 ∷ leads_of slot 1)
unfolding total_of added
moved_hashed slot hashed indexed led more is =
    subst (λ l. KeepsUp (slot_sums slot) (slot_sums (with_sums slot hashed indexed slot.listed slot.linked l))
    (to (entry_of slot) 0 1 ∷ leads_of slot 1)) (sym more)
    (keeps_given _ _ (pair (entry_of slot) 1 0 ++ (pair (link_of slot) 0 0 ++ leads_of slot 1)) (to (entry_of slot) 0 1 ∷ leads_of slot 1)
    (slot_moved slot hashed indexed slot.listed slot.linked 1 0 0 0 1 (omega (arith, is)) (omega arith))
    (λ a n. ap (λ k. added (to (entry_of slot) 0 1) a n + k) (dropped _ _ _ (dropped _ _ _ (dropped _ _ _ refl)))))

pub moved_indexed : (slot : NameSlot) (hashed indexed listed linked led : ℕ) → led ≡ slot.led + 1
    → indexed + slot.hashed ≡ (slot.indexed + 1) + hashed
    → listed + slot.linked ≡ (slot.listed + 1) + linked
    → KeepsUp (slot_sums slot) (slot_sums (with_sums slot hashed indexed listed linked led))
    (to (entry_of slot) 1 1 ∷ to (link_of slot) 0 1 ∷ leads_of slot 1)
unfolding total_of added
moved_indexed slot hashed indexed listed linked led more one two =
    subst (λ l. KeepsUp (slot_sums slot) (slot_sums (with_sums slot hashed indexed listed linked l))
    (to (entry_of slot) 1 1 ∷ to (link_of slot) 0 1 ∷ leads_of slot 1)) (sym more)
    (keeps_given _ _ (pair (entry_of slot) 0 1 ++ (pair (link_of slot) 1 0 ++ leads_of slot 1))
    (to (entry_of slot) 1 1 ∷ to (link_of slot) 0 1 ∷ leads_of slot 1)
    (slot_moved slot hashed indexed listed linked 0 1 1 0 1 (omega (arith, one)) (omega (arith, two)))
    (λ a n. dropped _ _ _ (ap (λ k. added (to (entry_of slot) 1 1) a n + k)
    (ap (λ k. added (to (link_of slot) 0 1) a n + k) (dropped _ _ _ refl)))))

pub moved_linked : (slot : NameSlot) (listed linked : ℕ) → linked + slot.listed ≡ (slot.linked + 1) + listed
    → KeepsUp (slot_sums slot) (slot_sums (with_sums slot slot.hashed slot.indexed listed linked slot.led)) (to (link_of slot) 1 1 ∷ [])
unfolding total_of added
moved_linked slot listed linked is =
    subst (λ l. KeepsUp (slot_sums slot) (slot_sums (with_sums slot slot.hashed slot.indexed listed linked l)) (to (link_of slot) 1 1 ∷ []))
    (omega arith)
    (keeps_given _ _ (pair (entry_of slot) 0 0 ++ (pair (link_of slot) 0 1 ++ leads_of slot 0)) (to (link_of slot) 1 1 ∷ [])
    (slot_moved slot slot.hashed slot.indexed listed linked 0 0 0 1 0 (omega arith) (omega (arith, is)))
    (λ a n. dropped _ _ _ (dropped _ _ _ (dropped _ _ _ (ap (λ k. added (to (link_of slot) 1 1) a n + k)
    (dropped _ _ _ (dropped _ _ _ refl)))))))

-- the postings of a slot
pub posted_slot : (slot : NameSlot) (first second third fourth fifth sixth : Posting) → first ≡ to (entry_of slot) 0 slot.hashed
    → second ≡ to (entry_of slot) 1 slot.indexed
    → third ≡ to (link_of slot) 0 slot.listed → fourth ≡ to (link_of slot) 1 slot.linked
    → fifth ≡ to (inode slot.tree slot.ino) 1 slot.led
    → sixth ≡ to (inode_type slot.tree slot.ino slot.sort) 0 slot.led
    → ◌≡◌ {A = List Posting} (first ∷ second ∷ third ∷ fourth ∷ fifth ∷ sixth ∷ []) (slot_postings slot)
unfolding slot_postings
posted_slot slot first second third fourth fifth sixth a b c d e f = λ i. a i ∷ b i ∷ c i ∷ d i ∷ e i ∷ f i ∷ []

pub entry_named : (slot : NameSlot) (hash : ℕ) (name : List ℕ) → name ≡ name_of slot → hash ≡ name_hash_of name
    → name_entry slot.tree slot.dir hash (key_by slot.ino INODE_ITEM 0) name slot.sort ≡ entry_of slot
entry_named slot hash name is hashed =
    ap (λ h. name_entry slot.tree slot.dir h (key_by slot.ino INODE_ITEM 0) name slot.sort) hashed
    ∙ ap (λ bytes. name_entry slot.tree slot.dir (name_hash_of bytes) (key_by slot.ino INODE_ITEM 0) bytes slot.sort) is

pub link_named : (slot : NameSlot) (name : List ℕ) → name ≡ name_of slot → link slot.tree slot.ino slot.dir slot.index name ≡ link_of slot
link_named slot name is = ap (link slot.tree slot.ino slot.dir slot.index) is

-- ---- slots

pub slots_total : (s : NameSlot) (ss : List NameSlot) (a : Account) (n : ℕ)
    → slots_sums (s ∷ ss) a n ≡ slot_sums s a n + slots_sums ss a n
slots_total s ss a n = total_joined (slot_postings s) (flat_map slot_postings ss) a n

-- one of the slots has more
pub slots_set : (ss : List NameSlot) (i : ℕ) (d v : NameSlot) (out given : List Posting) → i < length ss
    → KeepsBut (slot_sums (get_or ss i d)) (slot_sums v) out given
    → KeepsBut (slots_sums ss) (slots_sums (set ss i v)) out given
slots_set [] i d v out given within is = absurd (omega (arith, within))
slots_set (s ∷ ss) zero d v out given within is = λ a.
    ap (kept a.kind) (fun_ext (λ n. (let t = slots_total v ss a n in let
    e : slots_sums (v ∷ ss) a n + total_of out a n ≡ (slot_sums v a n + total_of out a n) + slots_sums ss a n = omega (arith, t) in e)))
    ∙ more_alike a.kind (λ n. slot_sums v a n + total_of out a n) (λ n. slot_sums s a n + total_of given a n) (slots_sums ss a) (is a)
    ∙ ap (kept a.kind) (fun_ext (λ n. (let t = slots_total s ss a n in let
    e : (slot_sums s a n + total_of given a n) + slots_sums ss a n ≡ slots_sums (s ∷ ss) a n + total_of given a n = omega
    (arith, t) in e)))
slots_set (s ∷ ss) (suc i) d v out given within is = λ a.
    ap (kept a.kind) (fun_ext (λ n. (let t = slots_total s (set ss i v) a n in let
    e : slots_sums (s ∷ set ss i v) a n + total_of out a n ≡ (slots_sums (set ss i v) a n + total_of out a n) + slot_sums s a n = omega
    (arith, t) in e)))
    ∙ more_alike a.kind (λ n. slots_sums (set ss i v) a n + total_of out a n) (λ n. slots_sums ss a n + total_of given a n)
    (slot_sums s a)
    (slots_set ss i d v out given (omega (arith, within)) is a)
    ∙ ap (kept a.kind) (fun_ext (λ n. (let t = slots_total s ss a n in let
    e : (slots_sums ss a n + total_of given a n) + slot_sums s a n ≡ slots_sums (s ∷ ss) a n + total_of given a n = omega
    (arith, t) in e)))

pub slots_at : (ss : List NameSlot) (i : ℕ) (s v : NameSlot) (out given : List Posting) → i < length ss → s ≡ get_or ss i s
    → KeepsBut (slot_sums s) (slot_sums v) out given
    → KeepsBut (slots_sums ss) (slots_sums (set ss i v)) out given
slots_at ss i s v out given within is keeps = slots_set ss i s v out given within
    (subst (λ (x : NameSlot). KeepsBut (slot_sums x) (slot_sums v) out given) is keeps)

pub no_sums : (a : Account) (n : ℕ) → slots_sums [] a n ≡ 0
unfolding total_of
no_sums a n = refl

-- one slot more, without sums
pub slots_pushed : (ss : List NameSlot) (slot : NameSlot) → IsFree slot → AreSame (slots_sums ss) (slots_sums (ss ++ slot ∷ []))
slots_pushed [] slot is = λ a n. (let
    t = slots_total slot [] a n in let
    x = free_slot slot is a n in
    omega (arith, t, x))
slots_pushed (s ∷ ss) slot is = λ a n. (let
    t = slots_total s ss a n in let
    u = slots_total s (ss ++ slot ∷ []) a n in let
    x = slots_pushed ss slot is a n in
    omega (arith, t, u, x))

-- ---- loops over slots

abbrev pub none : NameSlot
none = record { tree = 0; ino = 0; dir = 0; index = 0; name = []; size = 0; sort = 0; hashed = 0; indexed = 0; listed = 0; linked = 0; led = 0 }

pub slot_left : (ss : List NameSlot) (i : ℕ) → i < length ss → drop i ss ≡ get_or ss i none ∷ drop (i + 1) ss
slot_left ss i inside = at_drop_more (λ xs. xs) ss i none inside

pub none_left : (ss : List NameSlot) (i : ℕ) → length ss ≤ i → drop i ss ≡ []
none_left ss i end = at_drop_all (λ xs. xs) ss i end

-- ---- a tally

plus_none : (f : ℕ → ℕ) → f ≡ (λ n. f n + 0)
plus_none f = fun_ext (λ n. (let e : f n ≡ f n + 0 = omega arith in e))

pub kept_again : (tally : Tally) (a : Account) → kept a.kind (sums_in tally a) ≡ sums_in tally a
unfolding kept_sums
kept_again tally a = ap (kept a.kind) (plus_none _) ∙ kept_more a.kind _ (λ _. 0) ∙ ap (kept a.kind) (sym (plus_none _))

pub posts_nothing : (tally : Tally) (ps : List Posting) → ((a : Account) (n : ℕ) → total_of ps a n ≡ 0)
    → sums_in tally ≡ with_postings (sums_in tally) ps
unfolding with_postings
posts_nothing tally ps none = fun_ext (λ a. sym (kept_again tally a)
    ∙ ap (kept a.kind) (fun_ext (λ n. (let z = none a n in let e : sums_in tally a n
    ≡ sums_in tally a n + total_of ps a n = omega (arith, z) in e))))

-- some rows were posted so far, and these are left
pub record Posted {A : Type 0} (row : A → List Posting) (old now : Sums) (left all : List A) : Type 0 where
  pub done : List Posting
  pub sums : now ≡ with_postings old done
  pub whole : done ++ flat_map row left ≡ flat_map row all

pub posted_start : {A : Type 0} (row : A → List Posting) (tally : Tally) (left all : List A) → left ≡ all
    → Posted row (sums_in tally) (sums_in tally) left all
unfolding total_of
posted_start row tally left all is = record { done = []; sums = posts_nothing tally [] (λ a n. refl); whole = ap (flat_map row) is }

pub posted_more : {A : Type 0} (row : A → List Posting) (old now next : Sums) (left rest all : List A) (one : A)
    → Posted row old now left all → left ≡ one ∷ rest → next ≡ with_postings now (row one) → Posted row old next rest all
posted_more row old now next left rest all one posted step is = record {
  done = posted.done ++ row one;
  sums = is ∙ ap (λ s. with_postings s (row one)) posted.sums ∙ with_more old posted.done (row one);
  whole = append_assoc posted.done (row one) (flat_map row rest) ∙ ap (λ xs. posted.done ++ flat_map row xs) (sym step) ∙ posted.whole;
}

pub posted_all : {A : Type 0} (row : A → List Posting) (old now : Sums) (left all : List A) → Posted row old now left all → left ≡ []
    → now ≡ with_postings old (flat_map row all)
posted_all row old now left all posted none =
    posted.sums ∙ ap (with_postings old) (sym (append-nil posted.done) ∙ ap (λ xs. posted.done ++ flat_map row xs) (sym none)
    ∙ posted.whole)

-- all slots went to a tally
pub settled : (ss : List NameSlot) (old new : Tally) → sums_in new ≡ with_postings (sums_in old) (flat_map slot_postings ss)
    → (a : Account) → sums_in new a ≡ kept a.kind (λ n. sums_in old a n + slots_sums ss a n)
unfolding with_postings
settled ss old new is a = ap (λ (s : Sums). s a) is

-- ---- with inodes beside

abbrev pub beside : Sums → Sums → Sums
beside names inodes a n = names a n + inodes a n

pub but_same : (old mid new : Sums) (out given : List Posting) → AreSame old mid → KeepsBut mid new out given → KeepsBut old new out given
but_same old mid new out given same is = λ a. is a ∙ ap (kept a.kind) (fun_ext (λ n. ap (λ k. k + total_of given a n) (same a n)))

-- what was given, and then something taken out
pub but_then : (old mid new : Sums) (out given : List Posting) → KeepsUp old mid given → KeepsBut mid new out []
    → KeepsBut old new out given
unfolding total_of
but_then old mid new out given one two = λ a.
    two a ∙ ap (kept a.kind) (fun_ext (λ n. (let e : mid a n + 0 ≡ mid a n = omega arith in e))) ∙ one a

pub but_nothing : (old new : Sums) → KeepsUp old new [] → KeepsBut old new [] []
unfolding total_of
but_nothing old new is = λ a. ap (kept a.kind) (fun_ext (λ n. (let e : new a n + 0 ≡ new a n = omega arith in e))) ∙ is a

-- what was taken out was given to the inodes
pub adds_told : (old new inodes next : Sums) (before after out given : List Posting) → KeepsBut old new out given
    → AddsUp inodes next before after out
    → AddsUp (beside old inodes) (beside new next) before after given
adds_told old new inodes next before after out given one two = λ a.
    ap (kept a.kind) (fun_ext (λ n. (let
    e : (new a n + next a n) + total_of after a n ≡ (next a n + total_of after a n) + new a n = omega arith in e)))
    ∙ more_alike a.kind (λ n. next a n + total_of after a n) (λ n. (inodes a n + total_of before a n) + total_of out a n) (new a) (two a)
    ∙ ap (kept a.kind) (fun_ext (λ n. (let
    e : ((inodes a n + total_of before a n) + total_of out a n) + new a n
    ≡ (new a n + total_of out a n) + (inodes a n + total_of before a n) = omega arith in e)))
    ∙ more_alike a.kind (λ n. new a n + total_of out a n) (λ n. old a n + total_of given a n)
    (λ n. inodes a n + total_of before a n) (one a)
    ∙ ap (kept a.kind) (fun_ext (λ n. (let
    e : (old a n + total_of given a n) + (inodes a n + total_of before a n)
    ≡ ((old a n + inodes a n) + total_of before a n) + total_of given a n = omega arith in e)))

-- the names stay, and all was given to the inodes and the list
pub adds_passed : (old new inodes next : Sums) (before after given : List Posting) → KeepsBut old new [] []
    → AddsUp inodes next before after given
    → AddsUp (beside old inodes) (beside new next) before after given
unfolding total_of
adds_passed old new inodes next before after given one two = λ a.
    ap (kept a.kind) (fun_ext (λ n. (let
    e : (new a n + next a n) + total_of after a n ≡ (next a n + total_of after a n) + new a n = omega arith in e)))
    ∙ more_alike a.kind (λ n. next a n + total_of after a n) (λ n. (inodes a n + total_of before a n) + total_of given a n) (new a) (two a)
    ∙ ap (kept a.kind) (fun_ext (λ n. (let
    e : ((inodes a n + total_of before a n) + total_of given a n) + new a n
    ≡ (new a n + 0) + ((inodes a n + total_of before a n) + total_of given a n) = omega arith in e)))
    ∙ more_alike a.kind (λ n. new a n + 0) (λ n. old a n + 0) (λ n. (inodes a n + total_of before a n) + total_of given a n) (one a)
    ∙ ap (kept a.kind) (fun_ext (λ n. (let
    e : (old a n + 0) + ((inodes a n + total_of before a n) + total_of given a n)
    ≡ ((old a n + inodes a n) + total_of before a n) + total_of given a n = omega arith in e)))

-- rows of two halves
pub halves : {A : Type 0} (f g : A → List Posting) (xs : List A) (a : Account) (n : ℕ)
    → total_of (flat_map f xs ++ flat_map g xs) a n ≡ total_of (flat_map (λ x. f x ++ g x) xs) a n
halves f g [] a n = refl
halves f g (x ∷ xs) a n =
    let t = total_joined (f x ++ flat_map f xs) (g x ++ flat_map g xs) a n in
    let u = total_joined (f x) (flat_map f xs) a n in
    let v = total_joined (g x) (flat_map g xs) a n in
    let w = total_joined (f x ++ g x) (flat_map (λ x. f x ++ g x) xs) a n in
    let y = total_joined (f x) (g x) a n in
    let s = total_joined (flat_map f xs) (flat_map g xs) a n in
    let h = halves f g xs a n in
    omega (arith, t, u, v, w, y, s, h)
