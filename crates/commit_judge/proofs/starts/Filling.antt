-- What is made of all records, one after the other.
use Rattle.std.proofs.Common.{◌≡◌, ℕ, zero, suc, ◌+◌, ◌≤◌, ◌==◌, ◌&&◌, ◌||◌, Bool, true, false, cond, List, [], ◌∷◌, ◌++◌, length, length-append, refl, ap, sym, ◌∙◌, subst, arith}
use Rattle.std.specs.Prelude.{Option, Some, None}
use Rattle.std.specs.BTreeSet as set
use Rattle.std.specs.BTreeMap.{is_at}
use Rattle.std.specs.Cmp.{unsigned_tied}
use Rattle.std.specs.List.{cons_option, filter_map, fold, list_any}
use Rattle.std.specs.Ordering.{is_eq, nat_cmp, ordering_then}
use Rattle.std.specs.declared.cmp.Ordering.{Ordering}
use Rattle.std.specs.declared.cmp.Ordering.TheVariants.{Less, Equal, Greater}
use Rattle.std.proofs.Math.Path.{fun_ext}
use Rattle.std.proofs.lemmas.List.Sums.{sum_by-cons}
use Rattle.commit_laws.proofs.whole_commits.Spans.{times_cons}
use Rattle.verdict.proofs.Truth.{then_tied}
use Rattle.verdict.specs.declared.place.Chunk.{Chunk}
use Rattle.account_tally.specs.Sums.{Frees, none_free, or_free}
use Rattle.account_tally.proofs.Taken.{or_all}
use Rattle.accounts.specs.Sums.{total_of}
use Rattle.accounts.specs.Tally.{Sums, no_sums}
use Rattle.accounts.specs.declared.postings.Posting.{Posting}
use Rattle.accounts.proofs.Kept.{total_joined}
use Rattle.commit_laws.specs.Steps.{all_posts, posts_of, spans_of}
use Rattle.change_records.specs.Affected.{context_with}
use Rattle.change_records.specs.Listed.{inode_cmp}
use Rattle.change_records.specs.Spans.{span_of}
use Rattle.change_records.specs.declared.kept.Inode.{Inode}
use Rattle.recon_disk.specs.Outside.{counted}
use Rattle.records.specs.Context.{sum_free_inode}
use Rattle.records.specs.DirPostings.{dir_postings}
use Rattle.records.specs.ExtentPostings.{extent_postings}
use Rattle.records.specs.InodePostings.{inode_postings}
use Rattle.records.specs.Part.{Located}
use Rattle.records.proofs.SectorSums.{rest_alike}
use Rattle.span_index.specs.Order.{is_same}
use Rattle.span_index.specs.Sectors.{times_of_span}
use Rattle.span_index.specs.Spans.{Table, no_spans}
use Rattle.span_index.specs.declared.span.Span.{Span}
use Rattle.span_index.proofs.TableLaws.{same_is, same_itself}
use Rattle.ledger_index.specs.Looks.{counted_times}
use Rattle.ledger_index.specs.LooksLaws.{counted_both, counted_none}
use Rattle.ledger_index.proofs.LooksLaws.{counted_few}
use Rattle.touched_accounts.specs.Looks.{HaveLooks}
use Rattle.touched_accounts.specs.Sums.{with_all}
use Rattle.touched_accounts.specs.AddingLaws.{with_more, with_none}
use Rattle.touched_accounts.proofs.Counted.{counted_next, looks_stay}
use Rattle.commit_judge.specs.Filling.{Filled, looks_of, of_none, with_located, with_option}
use Rattle.commit_judge.specs.Flags.{free_in}

-- ---- sums

-- what a record posts but to sectors does not rest on which data has checksums
pub posts_alike : (chunks : List Chunk) (nodesize : ℕ) (free other : Frees) (one : Located)
    → posts_of (context_with chunks nodesize free) one ≡ posts_of (context_with chunks nodesize other) one
posts_alike chunks nodesize free other one =
    ap (λ (ps : List Posting). extent_postings one.tree one.part ++ (inode_postings one.tree one.part ++ (dir_postings one.tree one.part ++ ps)))
    (rest_alike (context_with chunks nodesize free) (context_with chunks nodesize other) one.tree one.part refl refl)

pub sums_after : (records : List Located) (held : Filled) (free : Frees)
    → (fold with_located held records).sums ≡ with_all held.sums (all_posts (context_with held.chunks held.nodesize free) records)
unfolding all_posts
sums_after [] held free = sym (with_none held.sums)
sums_after (one ∷ more) held free =
    let later = all_posts (context_with held.chunks held.nodesize free) more in
    sums_after more (with_located held one) free
    ∙ with_more held.sums (posts_of (context_with held.chunks held.nodesize held.free) one) later
    ∙ ap (λ (ps : List Posting). with_all held.sums (ps ++ later)) (posts_alike held.chunks held.nodesize held.free free one)

-- ---- spans

same_turned : (x y : Span) → is_same x y ≡ is_same y x
same_turned x y = by (is_same x y) (is_same y x) refl refl
  where
    by : (a b : Bool) → is_same x y ≡ a → is_same y x ≡ b → a ≡ b
    by true true is turned = refl
    by false false is turned = refl
    by true false is turned = let same : is_same y x ≡ true = subst (λ (z : Span). is_same z x ≡ true) (same_is x y is) (same_itself x) in absurd (cc (same, turned))
    by false true is turned = let same : is_same x y ≡ true = subst (λ (z : Span). is_same z y ≡ true) (same_is y x turned) (same_itself y) in absurd (cc (same, is))

one_more : (b : Bool) (n later : ℕ) → cond b (n + 1) n + later ≡ n + (cond b 1 0 + later)
one_more true n later = omega arith
one_more false n later = omega arith

one_span : (table : Table) (found : Option Span) (spans : List Span) (span : Span)
    → with_option table found span + times_of_span spans span ≡ table span + times_of_span (cons_option found spans) span
one_span table None spans span = refl
one_span table (Some more) spans span =
    one_more (is_same more span) (table span) (times_of_span spans span)
    ∙ ap (λ (b : Bool). table span + (cond b 1 0 + times_of_span spans span)) (same_turned more span)
    ∙ ap (λ (n : ℕ). table span + n) (sym (times_cons more spans span))

no_span : (span : Span) → times_of_span [] span ≡ 0
unfolding times_of_span
no_span span = refl

pub spans_after : (records : List Located) (held : Filled) (span : Span)
    → (fold with_located held records).spans span ≡ held.spans span + times_of_span (spans_of held.nodesize records) span
unfolding spans_of
spans_after [] held span = let none = no_span span in omega (arith, none)
spans_after (one ∷ more) held span =
    spans_after more (with_located held one) span
    ∙ one_span held.spans (span_of held.nodesize one) (filter_map (span_of held.nodesize) more) span

-- ---- inodes

pub free_after : (records : List Located) (held : Filled) → (fold with_located held records).free ≡ or_all held.free records
free_after [] held = refl
free_after (one ∷ more) held = free_after more (with_located held one)

tied_inode : (k : Inode) (tree ino : ℕ) → is_at (inode_cmp k) (record { tree = tree; ino = ino }) ≡ (k.tree == tree && k.ino == ino)
tied_inode k tree ino =
    then_tied (nat_cmp k.tree tree) (nat_cmp k.ino ino)
    ∙ ap (λ (b : Bool). b && is_eq (nat_cmp k.ino ino)) (unsigned_tied k.tree tree)
    ∙ ap (λ (b : Bool). (k.tree == tree) && b) (unsigned_tied k.ino ino)

swapped : (a b : Bool) → cond b true a ≡ (a || b)
swapped true true = refl
swapped true false = refl
swapped false true = refl
swapped false false = refl

-- an inode is put into a set
pub inode_put : (old new : set.BTreeSet Inode) (tree ino : ℕ) → set.Updates inode_cmp old new (record { tree = tree; ino = ino }) true
    → free_in new ≡ or_free (free_in old) (Some (tree, ino))
inode_put old new tree ino updates = fun_ext (λ t. fun_ext (λ i.
    updates.0 (record { tree = t; ino = i })
    ∙ ap (λ (b : Bool). cond b true (free_in old t i)) (tied_inode (record { tree = tree; ino = ino }) t i)
    ∙ swapped (free_in old t i) (tree == t && ino == i)))

no_inodes : (free : set.BTreeSet Inode) → free.keys ≡ [] → free_in free ≡ none_free
no_inodes free none = fun_ext (λ tree. fun_ext (λ ino. ap (list_any (is_at (inode_cmp (record { tree = tree; ino = ino })))) none))

-- ---- looks

-- a span is put by one look, and none by none
pub span_counted : (found : Option Span) (span : Span) (before after : ℕ) → after ≡ counted before → Some span ≡ found
    → after ≡ counted_times (looks_of found) before
span_counted found span before after more is =
    counted_next 0 before before after (sym (counted_none before)) more ∙ ap (λ (o : Option Span). counted_times (looks_of o) before) is

pub none_counted : (found : Option Span) (now : ℕ) → None ≡ found → now ≡ counted_times (looks_of found) now
none_counted found now is = sym (counted_none now) ∙ ap (λ (o : Option Span). counted_times (looks_of o) now) is

-- entries have their looks still, some looks later
pub looks_later : (n begun entries before after : ℕ) → after ≡ counted_times n before → HaveLooks begun entries before → HaveLooks begun entries after
unfolding counted_times
looks_later zero begun entries before after is have = subst (HaveLooks begun entries) (sym is) have
looks_later (suc n) begun entries before after is have =
    looks_stay begun entries (counted_times n before) after is (looks_later n begun entries before (counted_times n before) refl have)

span_more : (found : Option Span) (spans : List Span) → length (cons_option found spans) ≡ looks_of found + length spans
span_more None spans = omega arith
span_more (Some span) spans = omega arith

-- a look for each posting and each span
pub looks_after : (records : List Located) (held : Filled) (free : Frees)
    → (fold with_located held records).looks
    ≤ held.looks + length (all_posts (context_with held.chunks held.nodesize free) records) + length (spans_of held.nodesize records)
unfolding all_posts spans_of
looks_after [] held free = omega arith
looks_after (one ∷ more) held free =
    let new = posts_of (context_with held.chunks held.nodesize held.free) one in
    let same = posts_of (context_with held.chunks held.nodesize free) one in
    let later = all_posts (context_with held.chunks held.nodesize free) more in
    let found = span_of held.nodesize one in
    let rest = looks_after more (with_located held one) free in
    let here : counted_times (looks_of found + length new) held.looks ≤ held.looks + (looks_of found + length new) =
    counted_few (looks_of found + length new) held.looks in
    let alike : length new ≡ length same = ap length (posts_alike held.chunks held.nodesize held.free free one) in
    let both : length (same ++ later) ≡ length same + length later = length-append same later in
    let spans = span_more found (filter_map (span_of held.nodesize) more) in
    omega (arith, rest, here, alike, both, spans)

pub began_after : (records : List Located) (held : Filled) → (fold with_located held records).began ≡ held.began
began_after [] held = refl
began_after (one ∷ more) held = began_after more (with_located held one)

-- ---- all together

-- nothing is made of no records
pub none_filled : (chunks : List Chunk) (nodesize : ℕ) (sums : Sums) (spans : Table) (free : set.BTreeSet Inode) (began steps : ℕ)
    → sums ≡ no_sums → spans ≡ no_spans → free.keys ≡ [] → began ≡ steps
    → ◌≡◌ {A = Filled} (record {
      chunks = chunks;
      nodesize = nodesize;
      sums = sums;
      spans = spans;
      free = free_in free;
      began = began;
      looks = steps;
    }) (of_none chunks nodesize steps)
none_filled chunks nodesize sums spans free began steps no_sum no_span no_inode began_is =
    let free_is = no_inodes free no_inode in
    λ i. record { chunks = chunks; nodesize = nodesize; sums = no_sum i; spans = no_span i; free = free_is i; began = began_is i; looks = steps }

-- a record more is taken
pub one_filled : (held : Filled) (one : Located) (after : Sums) (spans : Table) (free : Frees) (between last : ℕ)
    → after ≡ with_all held.sums (posts_of (context_with held.chunks held.nodesize held.free) one)
    → spans ≡ with_option held.spans (span_of held.nodesize one)
    → free ≡ or_free held.free (sum_free_inode one)
    → between ≡ counted_times (length (posts_of (context_with held.chunks held.nodesize held.free) one)) held.looks
    → last ≡ counted_times (looks_of (span_of held.nodesize one)) between
    → ◌≡◌ {A = Filled} (record {
      chunks = held.chunks;
      nodesize = held.nodesize;
      sums = after;
      spans = spans;
      free = free;
      began = held.began;
      looks = last;
    }) (with_located held one)
one_filled held one after spans free between last added spans_are free_is first second =
    let new = posts_of (context_with held.chunks held.nodesize held.free) one in
    let span = looks_of (span_of held.nodesize one) in
    let looks_are : last ≡ counted_times (span + length new) held.looks =
    second ∙ ap (counted_times span) first ∙ counted_both span (length new) held.looks in
    λ i. record {
      chunks = held.chunks;
      nodesize = held.nodesize;
      sums = added i;
      spans = spans_are i;
      free = free_is i;
      began = held.began;
      looks = looks_are i;
    }
