-- The order by file after a change, and the first place of an inode in it.
use Rattle.std.proofs.Common.{◌≡◌, ℕ, Bool, true, false, cond, ◌&&◌, refl, sym, ap, ◌∙◌}
use Rattle.std.specs.Prelude.{◌==◌, Some, None}
use Rattle.std.specs.Ordering.{nat_cmp, ordering_then}
use Rattle.std.specs.BTreeMap.{is_at}
use Rattle.std.specs.BTreeSet as set
use Rattle.std.specs.Cmp.{unsigned_tied}
use Rattle.span_index.specs.declared.span.Span.{Span}
use Rattle.span_index.specs.declared.span.SpanSort.{SpanSort}
use Rattle.span_index.specs.declared.span.SpanSort.TheVariants.{Owned, Summed, Shown}
use Rattle.span_index.specs.declared.files.Files.{Files}
use Rattle.span_index.specs.declared.places.ByFile.{ByFile}
use Rattle.span_index.specs.Order.{is_same, span_cmp}
use Rattle.span_index.specs.Places.{file_cmp, file_in, has_file, is_file_of, is_shown_at}
use Rattle.span_index.proofs.TableLaws.{same_is}
use Rattle.verdict.proofs.Truth.{and_alike, and_false, then_tied}
use Rattle.verdict.proofs.Answers.{some_is}

tied_parts : (t i o : ℕ) (span : Span) (q : ByFile)
    → is_at (file_cmp (record { tree = t; ino = i; file_offset = o; span = span })) q ≡ (t == q.tree && (i == q.ino && (o == q.file_offset && is_same span q.span)))
unfolding is_same
tied_parts t i o span q =
    then_tied (nat_cmp t q.tree) (ordering_then (nat_cmp i q.ino) (ordering_then (nat_cmp o q.file_offset) (span_cmp span q.span)))
    ∙ and_alike _ _ _ _ (unsigned_tied t q.tree)
    (then_tied (nat_cmp i q.ino) (ordering_then (nat_cmp o q.file_offset) (span_cmp span q.span))
    ∙ and_alike _ _ _ _ (unsigned_tied i q.ino)
    (then_tied (nat_cmp o q.file_offset) (span_cmp span q.span)
    ∙ and_alike _ _ _ _ (unsigned_tied o q.file_offset) refl))

regrouped : (a b c : Bool) → (a && (b && (c && true))) ≡ ((a && (b && c)) && true)
regrouped true true true = refl
regrouped true true false = refl
regrouped true false c = refl
regrouped false b c = refl

all_false : (a b c d : Bool) → (a && (b && (c && false))) ≡ (d && false)
all_false true true true true = refl
all_false true true true false = refl
all_false true true false true = refl
all_false true true false false = refl
all_false true false c true = refl
all_false true false c false = refl
all_false false b c true = refl
all_false false b c false = refl

tied_file : (sort : SpanSort) (span : Span) (place q : ByFile) → span.sort ≡ sort → file_in sort span ≡ Some place → is_at (file_cmp place) q ≡ is_file_of span q
unfolding is_file_of
tied_file (Owned d) span place q own is = absurd (cc)
tied_file Summed span place q own is = absurd (cc)
tied_file (Shown t i o e l) span place q own is =
    ap (λ p. is_at (file_cmp p) q) (sym (some_is (record { tree = t; ino = i; file_offset = o; span = span }) place is))
    ∙ tied_parts t i o span q
    ∙ elim (is_same span q.span) as (λ b. is_same span q.span ≡ b → (t == q.tree && (i == q.ino && (o == q.file_offset && b))) ≡ (is_shown_at q.span.sort q && b)) [
      | true ↦ λ same.
          regrouped (t == q.tree) (i == q.ino) (o == q.file_offset)
          ∙ ap (λ s. is_shown_at s q && true) (sym own ∙ ap (λ s. s.sort) (same_is span q.span same))
      | false ↦ λ same. all_false (t == q.tree) (i == q.ino) (o == q.file_offset) (is_shown_at q.span.sort q)
    ] refl

not_file : (sort : SpanSort) (span : Span) (q : ByFile) → span.sort ≡ sort → file_in sort span ≡ None → is_file_of span q ≡ false
unfolding is_file_of
not_file (Shown t i o e l) span q own is = absurd (cc)
not_file sort span q own is =
    elim (is_same span q.span) as (λ b. is_same span q.span ≡ b → (is_shown_at q.span.sort q && b) ≡ false) [
      | true ↦ λ same. ap (λ s. is_shown_at s q && true) (sym (sym own ∙ ap (λ s. s.sort) (same_is span q.span same)))
      | false ↦ λ same. and_false (is_shown_at q.span.sort q)
    ] refl

pub file_put : (s n : set.BTreeSet ByFile) (f g : Files) (b : Bool) (span : Span) (place : ByFile) → f.places ≡ s → g.places ≡ n → file_in span.sort span ≡ Some place
    → ((q : ByFile) → set.contains file_cmp n q ≡ cond (is_at (file_cmp place) q) b (set.contains file_cmp s q)) → (q : ByFile) → has_file g q ≡ cond (is_file_of span q) b (has_file f q)
unfolding has_file
file_put s n f g b span place fs gn is updates q =
    ap (λ x. set.contains file_cmp x q) gn ∙ updates q
    ∙ ap (λ x. cond (is_at (file_cmp place) q) b (set.contains file_cmp x q)) (sym fs)
    ∙ ap (λ t. cond t b (set.contains file_cmp f.places q)) (tied_file span.sort span place q refl is)

pub file_kept : (f : Files) (b : Bool) (span : Span) → file_in span.sort span ≡ None → (q : ByFile) → has_file f q ≡ cond (is_file_of span q) b (has_file f q)
file_kept f b span is q = sym (ap (λ t. cond t b (has_file f q)) (not_file span.sort span q refl is))
