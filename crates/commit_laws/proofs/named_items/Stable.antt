-- Where two things are not different, they are the same: numbers, lists, and what records say.
use Rattle.std.proofs.Common.{◌≡◌, ℕ, List, [], ◌∷◌, inl, inr, refl, ap}
use Rattle.std.proofs.lemmas.Bool.{cases_eq}
use Rattle.verdict.specs.declared.key.Key.{Key}
use Rattle.volume_items.specs.declared.root.RootItem.{RootItem}
use Rattle.volume_items.specs.RootLinkRow.{RootLinkFields}
use Rattle.volume_items.specs.declared.device.DeviceItem.{DeviceItem}
use Rattle.volume_items.specs.declared.chunk.Stripe.{Stripe}
use Rattle.volume_items.specs.ChunkRow.{ChunkFields}
use Rattle.volume_items.specs.declared.dev_extent.DevExtent.{DevExtent}
use Rattle.extent_items.specs.declared.reference.Reference.{Reference}
use Rattle.extent_items.specs.ExtentRow.{ExtentFields}
use Rattle.extent_items.specs.declared.keyed.KeyedRef.{KeyedRef}
use Rattle.extent_items.specs.declared.group.GroupItem.{GroupItem}
use Rattle.fs_items.specs.declared.inode.InodeItem.{InodeItem}
use Rattle.fs_items.specs.InodeRefRow.{InodeRefFields, NameFields}
use Rattle.fs_items.specs.declared.xattr.Xattr.{Xattr}
use Rattle.fs_items.specs.declared.orphan.Orphan.{Orphan}
use Rattle.fs_items.specs.DirRow.{DirFields, EntryFields}
use Rattle.fs_items.specs.declared.file_extent.FileExtent.{FileExtent}
use Rattle.fs_items.specs.SumsRow.{SumFields}
use Rattle.accounts.specs.declared.account.Account.{Account}
use Rattle.accounts.specs.declared.postings.Posting.{Posting}
use Rattle.records.specs.Part.{Part}
use Rattle.records.specs.Part.Part.{RootPart, LinkPart, DevicePart, ChunkPart, DevExtentPart, ExtentPart, KeyedPart, GroupPart, InodePart, NamesPart, XattrPart, OrphanPart, EntriesPart, FileExtentPart, SumsPart, UnreadPart, SuperPart, BlockPart}

abbrev NotApart : {X : Type 0} → X → X → Type 0
NotApart a b = (a ≡ b → ⊥) → ⊥

abbrev pub IsStable : Type 0 → Type 0
IsStable X = (a b : X) → NotApart a b → a ≡ b

stable_nat : IsStable ℕ
stable_nat a b near = elim (cases_eq a b) [ inl same ↦ same | inr apart ↦ absurd (near apart) ]

-- what is the same of two things that are the same
field : {X Y : Type 0} (f : X → Y) → IsStable Y → (a b : X) → NotApart a b → f a ≡ f b
field f is a b near = is (f a) (f b) (λ apart. near (λ same. apart (ap f same)))

number : {X : Type 0} (f : X → ℕ) (a b : X) → NotApart a b → f a ≡ f b
number f = field f stable_nat

-- where two are one because what they are made of is one
made_of : {X Y : Type 0} (f : X → Y) → IsStable X → (a b : X) → (f a ≡ f b → a ≡ b) → NotApart (f a) (f b) → f a ≡ f b
made_of f is a b back near = ap f (is a b (λ apart. near (λ same. apart (back same))))

pub stable_list : {X : Type 0} → IsStable X → IsStable (List X)
stable_list is [] [] near = refl
stable_list is [] (y ∷ ys) near = absurd (near (λ same. cc))
stable_list is (x ∷ xs) [] near = absurd (near (λ same. cc))
stable_list is (x ∷ xs) (y ∷ ys) near =
    let head : x ≡ y = is x y (λ apart. near (λ same. apart (cc))) in
    let tail : xs ≡ ys = stable_list is xs ys (λ apart. near (λ same. apart (cc))) in
    λ i. head i ∷ tail i

bytes : {X : Type 0} (f : X → List ℕ) (a b : X) → NotApart a b → f a ≡ f b
bytes f = field f (stable_list stable_nat)

-- ---- keys and accounts

stable_key : IsStable Key
stable_key a b near =
    let e1 = number (λ (x : Key). x.objectid) a b near in
    let e2 = number (λ (x : Key). x.kind) a b near in
    let e3 = number (λ (x : Key). x.offset) a b near in
    λ i. record { objectid = e1 i; kind = e2 i; offset = e3 i }

stable_account : IsStable Account
stable_account a b near =
    let e1 = number (λ (x : Account). x.kind) a b near in
    let e2 = number (λ (x : Account). x.tree) a b near in
    let e3 = number (λ (x : Account). x.block) a b near in
    let e4 = field (λ (x : Account). x.key) stable_key a b near in
    let e5 = number (λ (x : Account). x.detail) a b near in
    let e6 = bytes (λ (x : Account). x.tail) a b near in
    λ i. record { kind = e1 i; tree = e2 i; block = e3 i; key = e4 i; detail = e5 i; tail = e6 i }

pub stable_posting : IsStable Posting
stable_posting a b near =
    let e1 = field (λ (x : Posting). x.account) stable_account a b near in
    let e2 = number (λ (x : Posting). x.field) a b near in
    let e3 = number (λ (x : Posting). x.amount) a b near in
    λ i. record { account = e1 i; field = e2 i; amount = e3 i }

-- ---- what items say

stable_root : IsStable RootItem
stable_root a b near =
    let e1 = field (λ (x : RootItem). x.key) stable_key a b near in
    let e2 = number (λ (x : RootItem). x.generation) a b near in
    let e3 = number (λ (x : RootItem). x.bytenr) a b near in
    let e4 = number (λ (x : RootItem). x.refs) a b near in
    let e5 = number (λ (x : RootItem). x.level) a b near in
    λ i. record { key = e1 i; generation = e2 i; bytenr = e3 i; refs = e4 i; level = e5 i }

stable_link : IsStable RootLinkFields
stable_link a b near =
    let e1 = field (λ (x : RootLinkFields). x.key) stable_key a b near in
    let e2 = number (λ (x : RootLinkFields). x.dirid) a b near in
    let e3 = number (λ (x : RootLinkFields). x.sequence) a b near in
    let e4 = bytes (λ (x : RootLinkFields). x.name) a b near in
    λ i. record { key = e1 i; dirid = e2 i; sequence = e3 i; name = e4 i }

stable_device : IsStable DeviceItem
stable_device a b near =
    let e1 = field (λ (x : DeviceItem). x.key) stable_key a b near in
    let e2 = number (λ (x : DeviceItem). x.devid) a b near in
    let e3 = number (λ (x : DeviceItem). x.bytes_used) a b near in
    λ i. record { key = e1 i; devid = e2 i; bytes_used = e3 i }

stable_stripe : IsStable Stripe
stable_stripe a b near =
    let e1 = number (λ (x : Stripe). x.devid) a b near in
    let e2 = number (λ (x : Stripe). x.physical) a b near in
    λ i. record { devid = e1 i; physical = e2 i }

stable_chunk : IsStable ChunkFields
stable_chunk a b near =
    let e1 = field (λ (x : ChunkFields). x.key) stable_key a b near in
    let e2 = number (λ (x : ChunkFields). x.length) a b near in
    let e3 = number (λ (x : ChunkFields). x.class) a b near in
    let e4 = field (λ (x : ChunkFields). x.stripes) (stable_list stable_stripe) a b near in
    λ i. record { key = e1 i; length = e2 i; class = e3 i; stripes = e4 i }

stable_dev_extent : IsStable DevExtent
stable_dev_extent a b near =
    let e1 = field (λ (x : DevExtent). x.key) stable_key a b near in
    let e2 = number (λ (x : DevExtent). x.chunk_offset) a b near in
    let e3 = number (λ (x : DevExtent). x.length) a b near in
    λ i. record { key = e1 i; chunk_offset = e2 i; length = e3 i }

stable_reference : IsStable Reference
stable_reference a b near =
    let e1 = number (λ (x : Reference). x.kind) a b near in
    let e2 = number (λ (x : Reference). x.root) a b near in
    let e3 = number (λ (x : Reference). x.objectid) a b near in
    let e4 = number (λ (x : Reference). x.offset) a b near in
    let e5 = number (λ (x : Reference). x.parent) a b near in
    let e6 = number (λ (x : Reference). x.count) a b near in
    λ i. record { kind = e1 i; root = e2 i; objectid = e3 i; offset = e4 i; parent = e5 i; count = e6 i }

stable_extent : IsStable ExtentFields
stable_extent a b near =
    let e1 = field (λ (x : ExtentFields). x.key) stable_key a b near in
    let e2 = number (λ (x : ExtentFields). x.refs) a b near in
    let e3 = number (λ (x : ExtentFields). x.generation) a b near in
    let e4 = number (λ (x : ExtentFields). x.flags) a b near in
    let e5 = field (λ (x : ExtentFields). x.references) (stable_list stable_reference) a b near in
    λ i. record { key = e1 i; refs = e2 i; generation = e3 i; flags = e4 i; references = e5 i }

stable_keyed : IsStable KeyedRef
stable_keyed a b near =
    let e1 = field (λ (x : KeyedRef). x.key) stable_key a b near in
    let e2 = field (λ (x : KeyedRef). x.reference) stable_reference a b near in
    λ i. record { key = e1 i; reference = e2 i }

stable_group : IsStable GroupItem
stable_group a b near =
    let e1 = field (λ (x : GroupItem). x.key) stable_key a b near in
    let e2 = number (λ (x : GroupItem). x.used) a b near in
    let e3 = number (λ (x : GroupItem). x.flags) a b near in
    λ i. record { key = e1 i; used = e2 i; flags = e3 i }

stable_inode : IsStable InodeItem
stable_inode a b near =
    let e1 = field (λ (x : InodeItem). x.key) stable_key a b near in
    let e2 = number (λ (x : InodeItem). x.size) a b near in
    let e3 = number (λ (x : InodeItem). x.nbytes) a b near in
    let e4 = number (λ (x : InodeItem). x.nlink) a b near in
    let e5 = number (λ (x : InodeItem). x.mode) a b near in
    let e6 = number (λ (x : InodeItem). x.flags) a b near in
    λ i. record { key = e1 i; size = e2 i; nbytes = e3 i; nlink = e4 i; mode = e5 i; flags = e6 i }

stable_name : IsStable NameFields
stable_name a b near =
    let e1 = number (λ (x : NameFields). x.parent) a b near in
    let e2 = number (λ (x : NameFields). x.index) a b near in
    let e3 = bytes (λ (x : NameFields). x.name) a b near in
    λ i. record { parent = e1 i; index = e2 i; name = e3 i }

stable_names : IsStable InodeRefFields
stable_names a b near =
    let e1 = field (λ (x : InodeRefFields). x.key) stable_key a b near in
    let e2 = field (λ (x : InodeRefFields). x.names) (stable_list stable_name) a b near in
    λ i. record { key = e1 i; names = e2 i }

stable_xattr : IsStable Xattr
stable_xattr a b near = let e1 = field (λ (x : Xattr). x.key) stable_key a b near in λ i. record { key = e1 i }

stable_orphan : IsStable Orphan
stable_orphan a b near = let e1 = field (λ (x : Orphan). x.key) stable_key a b near in λ i. record { key = e1 i }

stable_entry : IsStable EntryFields
stable_entry a b near =
    let e1 = field (λ (x : EntryFields). x.location) stable_key a b near in
    let e2 = number (λ (x : EntryFields). x.sort) a b near in
    let e3 = bytes (λ (x : EntryFields). x.name) a b near in
    λ i. record { location = e1 i; sort = e2 i; name = e3 i }

stable_entries : IsStable DirFields
stable_entries a b near =
    let e1 = field (λ (x : DirFields). x.key) stable_key a b near in
    let e2 = field (λ (x : DirFields). x.entries) (stable_list stable_entry) a b near in
    λ i. record { key = e1 i; entries = e2 i }

stable_range : IsStable FileExtent
stable_range a b near =
    let e1 = field (λ (x : FileExtent). x.key) stable_key a b near in
    let e2 = number (λ (x : FileExtent). x.ram_bytes) a b near in
    let e3 = number (λ (x : FileExtent). x.sort) a b near in
    let e4 = number (λ (x : FileExtent). x.extent) a b near in
    let e5 = number (λ (x : FileExtent). x.extent_length) a b near in
    let e6 = number (λ (x : FileExtent). x.offset) a b near in
    let e7 = number (λ (x : FileExtent). x.length) a b near in
    λ i. record { key = e1 i; ram_bytes = e2 i; sort = e3 i; extent = e4 i; extent_length = e5 i; offset = e6 i; length = e7 i }

stable_sums : IsStable SumFields
stable_sums a b near =
    let e1 = field (λ (x : SumFields). x.key) stable_key a b near in
    let e2 = bytes (λ (x : SumFields). x.sums) a b near in
    λ i. record { key = e1 i; sums = e2 i }

-- two that are made one way each of one thing
one_of : {X Y : Type 0} (f : X → Y) → IsStable X → ((x y : X) → f x ≡ f y → x ≡ y) → (x y : X) → NotApart (f x) (f y) → f x ≡ f y
one_of f is back x y near = made_of f is x y (back x y) near

pub stable_part : IsStable Part
stable_part (RootPart x) (RootPart y) near = one_of RootPart stable_root (λ x y e. cc) x y near
stable_part (LinkPart x) (LinkPart y) near = one_of LinkPart stable_link (λ x y e. cc) x y near
stable_part (DevicePart x) (DevicePart y) near = one_of DevicePart stable_device (λ x y e. cc) x y near
stable_part (ChunkPart x) (ChunkPart y) near = one_of ChunkPart stable_chunk (λ x y e. cc) x y near
stable_part (DevExtentPart x) (DevExtentPart y) near = one_of DevExtentPart stable_dev_extent (λ x y e. cc) x y near
stable_part (ExtentPart x) (ExtentPart y) near = one_of ExtentPart stable_extent (λ x y e. cc) x y near
stable_part (KeyedPart x) (KeyedPart y) near = one_of KeyedPart stable_keyed (λ x y e. cc) x y near
stable_part (GroupPart x) (GroupPart y) near = one_of GroupPart stable_group (λ x y e. cc) x y near
stable_part (InodePart x) (InodePart y) near = one_of InodePart stable_inode (λ x y e. cc) x y near
stable_part (NamesPart x) (NamesPart y) near = one_of NamesPart stable_names (λ x y e. cc) x y near
stable_part (XattrPart x) (XattrPart y) near = one_of XattrPart stable_xattr (λ x y e. cc) x y near
stable_part (OrphanPart x) (OrphanPart y) near = one_of OrphanPart stable_orphan (λ x y e. cc) x y near
stable_part (EntriesPart x) (EntriesPart y) near = one_of EntriesPart stable_entries (λ x y e. cc) x y near
stable_part (FileExtentPart x) (FileExtentPart y) near = one_of FileExtentPart stable_range (λ x y e. cc) x y near
stable_part (SumsPart x) (SumsPart y) near = one_of SumsPart stable_sums (λ x y e. cc) x y near
stable_part (UnreadPart x) (UnreadPart y) near = one_of UnreadPart (stable_list stable_nat) (λ x y e. cc) x y near
stable_part (SuperPart x) (SuperPart y) near = one_of SuperPart stable_nat (λ x y e. cc) x y near
stable_part (BlockPart x m) (BlockPart y n) near =
    let e1 : x ≡ y = stable_nat x y (λ apart. near (λ same. apart (cc))) in
    let e2 : m ≡ n = stable_nat m n (λ apart. near (λ same. apart (cc))) in
    λ i. BlockPart (e1 i) (e2 i)
stable_part a b near = absurd (near (λ same. cc))
