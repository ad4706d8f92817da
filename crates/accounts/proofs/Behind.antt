-- Postings that are handed on behind others.
use Rattle.std.proofs.Common.{◌≡◌, List, [], ◌∷◌, ◌++◌, sym, subst}
use Rattle.std.specs.List.{flat_map}
use Rattle.std.specs.Prelude.{Ok, Err, IsOk, IsErr}
use Rattle.accounts.specs.declared.postings.Posting.{Posting}
use Rattle.accounts.specs.Posts.{Done, Passes}

-- what calls that post leave of something
abbrev pub Relation : Type 0 → Type 1
Relation S = S → S → Done → List Posting → Type 0

cut : {S : Type 0} (leaves : Relation S) → Passes leaves → (old new : S) (before result : Done) (first later : List Posting)
    → leaves old new before first → IsErr before → IsErr result → leaves old new result (first ++ later)
cut leaves laws old new (Ok t) result first later posts failed fails = absurd (cc)
cut leaves laws old new (Err e) (Ok t) first later posts failed fails = absurd (cc)
cut leaves laws old new (Err e) (Err f) first later posts failed fails = laws.cut old new e f first later posts

-- where some postings could not be put whole, neither were these and more
pub posts_cut : {S : Type 0} {leaves : Relation S} {old new : S} {before result : Done} {first : List Posting} → Passes leaves → (later : List Posting)
    → leaves old new before first → IsErr before → IsErr result → leaves old new result (first ++ later)
posts_cut {leaves = leaves} {old = old} {new = new} {before = before} {result = result} {first = first} laws later posts failed fails =
    cut leaves laws old new before result first later posts failed fails

more : {S : Type 0} (leaves : Relation S) → Passes leaves → (old mid new : S) (before result : Done) (first later : List Posting)
    → leaves old mid before first → IsOk before → leaves mid new result later → leaves old new result (first ++ later)
more leaves laws old mid new (Err e) result first later posts done rest = absurd (cc)
more leaves laws old mid new (Ok t) result first later posts done rest = laws.more old mid new result first later posts rest

-- some postings were put, and others behind them
pub posts_more : {S : Type 0} {leaves : Relation S} {old mid new : S} {before result : Done} {first later : List Posting} → Passes leaves
    → leaves old mid before first → IsOk before → leaves mid new result later → leaves old new result (first ++ later)
posts_more {leaves = leaves} {old = old} {mid = mid} {new = new} {before = before} {result = result} {first = first} {later = later} laws posts done rest =
    more leaves laws old mid new before result first later posts done rest

-- so many of some things are left that what leaves their rows behind leaves those of all
pub record Leaves {A S : Type 0} (leaves : Relation S) (row : A → List Posting) (old now : S) (left all : List A) : Type 0 where
  pub then : (new : S) (result : Done) → leaves now new result (flat_map row left) → leaves old new result (flat_map row all)

-- all are left
pub leaves_all : {A S : Type 0} {leaves : Relation S} {row : A → List Posting} {old : S} {left all : List A} → left ≡ all → Leaves leaves row old old left all
leaves_all {leaves = leaves} {row = row} {old = old} start =
    record { then = λ new result posts. subst (λ xs. leaves old new result (flat_map row xs)) start posts }

-- the row of the first was posted
pub leaves_rest : {A S : Type 0} {leaves : Relation S} {row : A → List Posting} {old now next : S} {left rest all : List A} {one : A} {before : Done} → Passes leaves
    → Leaves leaves row old now left all → left ≡ one ∷ rest → leaves now next before (row one) → IsOk before → Leaves leaves row old next rest all
leaves_rest {leaves = leaves} {row = row} {now = now} laws so_far step posts done = record {
  then = λ new result later. so_far.then new result
      (subst (λ xs. leaves now new result (flat_map row xs)) (sym step) (posts_more laws posts done later));
}

-- the row of the first could not be posted whole
pub leaves_cut : {A S : Type 0} {leaves : Relation S} {row : A → List Posting} {old now next : S} {left rest all : List A} {one : A} {before result : Done} → Passes leaves
    → Leaves leaves row old now left all → left ≡ one ∷ rest → leaves now next before (row one) → IsErr before → IsErr result → leaves old next result (flat_map row all)
leaves_cut {leaves = leaves} {row = row} {now = now} {next = next} {rest = rest} {result = result} laws so_far step posts failed fails =
    so_far.then next result (subst (λ xs. leaves now next result (flat_map row xs)) (sym step) (posts_cut laws (flat_map row rest) posts failed fails))

-- nothing is left
pub leaves_none : {A S : Type 0} {leaves : Relation S} {row : A → List Posting} {old now : S} {left all : List A} → Passes leaves
    → Leaves leaves row old now left all → left ≡ [] → leaves old now (Ok tt) (flat_map row all)
leaves_none {leaves = leaves} {row = row} {now = now} laws so_far end =
    so_far.then now (Ok tt) (subst (λ xs. leaves now now (Ok tt) (flat_map row xs)) (sym end) (laws.none now))

-- some postings are left, of all: what leaves these leaves all
pub record Left {S : Type 0} (leaves : Relation S) (old now : S) (left all : List Posting) : Type 0 where
  pub then : (new : S) (result : Done) → leaves now new result left → leaves old new result all

-- all are left
pub left_all : {S : Type 0} {leaves : Relation S} {old : S} {left all : List Posting} → left ≡ all → Left leaves old old left all
left_all {leaves = leaves} {old = old} start = record { then = λ new result posts. subst (leaves old new result) start posts }

-- the first of them were posted
pub left_rest : {S : Type 0} {leaves : Relation S} {old now next : S} {left first rest all : List Posting} {before : Done} → Passes leaves
    → Left leaves old now left all → left ≡ first ++ rest → leaves now next before first → IsOk before → Left leaves old next rest all
left_rest {leaves = leaves} {now = now} laws so_far step posts done = record {
  then = λ new result later. so_far.then new result (subst (leaves now new result) (sym step) (posts_more laws posts done later));
}

-- the first of them could not be posted whole
pub left_cut : {S : Type 0} {leaves : Relation S} {old now next : S} {left first all : List Posting} {before result : Done} → Passes leaves → (rest : List Posting)
    → Left leaves old now left all → left ≡ first ++ rest → leaves now next before first → IsErr before → IsErr result → leaves old next result all
left_cut {leaves = leaves} {now = now} {next = next} {result = result} laws rest so_far step posts failed fails =
    so_far.then next result (subst (leaves now next result) (sym step) (posts_cut laws rest posts failed fails))

-- none is left
pub left_none : {S : Type 0} {leaves : Relation S} {old now : S} {left all : List Posting} → Passes leaves
    → Left leaves old now left all → left ≡ [] → leaves old now (Ok tt) all
left_none {leaves = leaves} {now = now} laws so_far end = so_far.then now (Ok tt) (subst (leaves now now (Ok tt)) (sym end) (laws.none now))
