-- The least broken account is that of the least broken sector or the least broken account among the others.
use Rattle.std.proofs.Common.{◌≡◌, ℕ, ◌+◌, ◌%◌, ◌==◌, ◌&&◌, Bool, true, false, not, cond, List, [], ◌∷◌, refl, ap, sym, ◌∙◌, arith}
use Rattle.std.specs.Prelude.{Option, Some, None, IfSome, nat_le, nat_lt, option_map}
use Rattle.std.specs.List.{AllByRecursion, filter_map, sum_by}
use Rattle.std.proofs.Math.Path.{fun_ext}
use Rattle.std.proofs.lemmas.Bool.{eqb-true}
use Rattle.std.proofs.lemmas.List.Elements.{recursion_from_All}
use Rattle.verdict.proofs.Numbers.{above_zero}
use Rattle.verdict.proofs.Truth.{false_either_way as either}
use Rattle.verdict.specs.Items.{is_multiple}
use Rattle.fs_items.specs.declared.file_extent.FileExtent.{FileExtent}
use Rattle.accounts.specs.declared.account.Account.{Account}
use Rattle.accounts.specs.Broken.{broken_finding, is_broken}
use Rattle.accounts.specs.Context.{Context}
use Rattle.accounts.specs.Kinds.{sector}
use Rattle.accounts.specs.Least.{is_broken_by, least_broken}
use Rattle.accounts.specs.Sums.{is_same, total_of}
use Rattle.accounts.proofs.First.{least_is_least, one_least, unposted}
use Rattle.accounts.proofs.Kept.{total_joined}
use Rattle.sector_runs.specs.Runs.{IsLeastBroken as IsLeastSector}
use Rattle.account_tally.specs.Kept.{AreSumsOf}
use Rattle.account_tally.proofs.Families.{rest_none}
use Rattle.account_tally.proofs.Joined.{joined}
use Rattle.records.specs.Part.{IsLawful, Located, Part}
use Rattle.records.specs.Part.Part.{ExtentPart, FileExtentPart, SumsPart}
use Rattle.records.specs.ExtentPostings.{extent_postings}
use Rattle.records.specs.InodePostings.{inode_postings}
use Rattle.records.specs.DirPostings.{dir_postings}
use Rattle.records.specs.SpacePostings.{rest_postings, space_postings}
use Rattle.records.specs.Postings.{all_postings, postings_of}
use Rattle.records.proofs.SectorSums.{dir_none, extent_none, inode_none, rest_total, space_none}
use Rattle.span_index.specs.declared.span.Span.{Span}
use Rattle.span_index.specs.Sectors.{adds, adds_to, counts, is_bad, sector_sum}
use Rattle.span_index.specs.Spans.{end_of}
use Rattle.change_records.specs.Spans.{IsLawfulIn, shown_span, span_in, span_of}
use Rattle.commit_laws.specs.Judged.{IsLeastBad, JudgedLaw}
use Rattle.commit_laws.specs.Sectors.{AreSound}
use Rattle.commit_laws.specs.Steps.{all_posts, posts_of, spans_of}
use Rattle.commit_laws.proofs.at_sectors.Posted.{adds_in, four, same_rest, sectors, space_alone, sum_more}

-- ---- what is posted but to sectors

module _ (context : Context) where
  others_one : (one : Located) (account : Account) → (account.kind == 5) ≡ false → (field : ℕ)
      → total_of (postings_of context one) account field ≡ total_of (posts_of context one) account field
  others_one one account is field =
      let all = four (extent_postings one.tree one.part) (inode_postings one.tree one.part) (dir_postings one.tree one.part) (space_postings context one.tree one.part) account field in
      let rest = four (extent_postings one.tree one.part) (inode_postings one.tree one.part) (dir_postings one.tree one.part) (rest_postings context one.tree one.part) account field in
      let same = rest_total context one.tree one.part account field is in
      omega (arith, all, rest, same)

  none_one : (one : Located) (account : Account) → (account.kind == 5) ≡ true → (field : ℕ) → total_of (posts_of context one) account field ≡ 0
  none_one one account is field =
      let rest = four (extent_postings one.tree one.part) (inode_postings one.tree one.part) (dir_postings one.tree one.part) (rest_postings context one.tree one.part) account field in
      let first = extent_none one.tree one.part account field is in
      let second = inode_none one.tree one.part account field is in
      let third = dir_none one.tree one.part account field is in
      let last = rest_none context one.tree one.part account field is in
      omega (arith, rest, first, second, third, last)

  pub others : (records : List Located) (account : Account) → (account.kind == 5) ≡ false → (field : ℕ)
      → total_of (all_postings context records) account field ≡ total_of (all_posts context records) account field
  unfolding all_posts
  others [] account is field = refl
  others (one ∷ more) account is field =
      total_joined (postings_of context one) (all_postings context more) account field
      ∙ (λ i. others_one one account is field i + others more account is field i)
      ∙ sym (total_joined (posts_of context one) (all_posts context more) account field)

  pub none : (records : List Located) (account : Account) → (account.kind == 5) ≡ true → (field : ℕ) → total_of (all_posts context records) account field ≡ 0
  unfolding all_posts total_of
  none [] account is field = refl
  none (one ∷ more) account is field =
      total_joined (posts_of context one) (all_posts context more) account field
      ∙ (λ i. none_one one account is field i + none more account is field i)

  no_more : (records : List Located) (account : Account) → (account.kind == 5) ≡ true → is_same account (sector account.block) ≡ false → (field : ℕ)
      → total_of (all_postings context records) account field ≡ 0
  unfolding total_of
  no_more [] account is other field = refl
  no_more (one ∷ more) account is other field =
      total_joined (postings_of context one) (all_postings context more) account field
      ∙ (λ i. (space_alone context one account is field ∙ space_none context one.tree one.part account field is other) i + no_more more account is other field i)

  are_sums : (records : List Located) → AreSound context.nodesize records
      → AreSumsOf (all_postings context records) (all_posts context records) (sector_sum context (spans_of context.nodesize records))
  are_sums records sound = record {
    others = others records;
    none = none records;
    of_sectors = λ address field. sectors context records address field sound;
    no_more = no_more records;
  }

-- ---- an address that is no sector's

no_rest : (a b r : Bool) → r ≡ false → (a && (b && r)) ≡ false
no_rest true true r is = is
no_rest true false r is = refl
no_rest false b r is = refl

adds_off : (context : Context) (address field : ℕ) (span : Span) → is_multiple span.first ≡ true → is_multiple address ≡ false → adds context address field span ≡ 0
unfolding adds
adds_off context address field span begin off =
    ap (λ b. cond (b && (counts context span span.sort && adds_to span.sort field)) 1 0)
    (no_rest (nat_le span.first address) (nat_lt address (end_of span)) (span.first % 4096 == address % 4096) (sym (same_rest span.first address begin) ∙ off))

shown_begin : (tree : ℕ) (range : FileExtent) (s h : Bool) → (range.extent == 0) ≡ h → IsLawful (FileExtentPart range)
    → IfSome (cond (s && not h) (Some (shown_span tree range)) None) (λ span. is_multiple span.first ≡ true)
shown_begin tree range true true is lawful = tt
shown_begin tree range true false is lawful = (lawful (above_zero range.extent is)).0
shown_begin tree range false h is lawful = tt

-- the span of a sound record begins at a sector
begins : (nodesize tree : ℕ) (part : Part) → IsLawful part → IfSome (span_in nodesize tree part) (λ span. is_multiple span.first ≡ true)
begins nodesize tree (ExtentPart item) lawful = lawful
begins nodesize tree (FileExtentPart range) lawful = shown_begin tree range (range.sort == 1) (range.extent == 0) refl lawful
begins nodesize tree (SumsPart item) lawful = lawful.0
begins nodesize tree other lawful = tt

adds_in_off : (context : Context) (address field : ℕ) (span : Option Span) → IfSome span (λ s. is_multiple s.first ≡ true) → is_multiple address ≡ false
    → adds_in context address field span ≡ 0
adds_in_off context address field None begin off = refl
adds_in_off context address field (Some span) begin off = adds_off context address field span begin off

sum_off : (context : Context) (records : List Located) (address field : ℕ)
    → AllByRecursion (λ (one : Located). IsLawfulIn context.nodesize one one.part × IsLawful one.part) records → is_multiple address ≡ false
    → sum_by (adds context address field) (filter_map (span_of context.nodesize) records) ≡ 0
sum_off context [] address field sound off = refl
sum_off context (one ∷ more) address field sound off =
    sum_more context address field (span_of context.nodesize one) (filter_map (span_of context.nodesize) more)
    ∙ (λ i. adds_in_off context address field (span_of context.nodesize one) (begins context.nodesize one.tree one.part sound.0.1) off i + sum_off context more address field sound.1 off i)

keeps_off : (context : Context) (records : List Located) (address : ℕ) → AreSound context.nodesize records → is_multiple address ≡ false
    → is_broken (sector address) (sector_sum context (spans_of context.nodesize records) address) ≡ false
unfolding sector_sum spans_of
keeps_off context records address sound off =
    ap (is_broken (sector address)) (fun_ext (λ field. sum_off context records address field
    (recursion_from_All (λ (one : Located). IsLawfulIn context.nodesize one one.part × IsLawful one.part) records sound) off))
    ∙ unposted (sector address)

-- ---- the least of both

least_sector : (context : Context) (records : List Located) (bad : Option ℕ) → AreSound context.nodesize records
    → IsLeastBad (is_bad context (spans_of context.nodesize records)) bad → IsLeastSector (sector_sum context (spans_of context.nodesize records)) bad
unfolding is_bad
least_sector context records None sound is = λ address.
    either (is_broken (sector address) (sector_sum context (spans_of context.nodesize records) address)) (is_multiple address)
    (keeps_off context records address sound) (λ on. is address (eqb-true (address % 4096) 0 on))
least_sector context records (Some least) sound is = (
  is.1,
  λ address less.
      either (is_broken (sector address) (sector_sum context (spans_of context.nodesize records) address)) (is_multiple address)
      (keeps_off context records address sound) (λ on. is.2 address (eqb-true (address % 4096) 0 on) less),
)

pub judged : JudgedLaw
judged context records bad least sound is_bad_first is_least =
    ap (option_map broken_finding)
    (sym (joined (all_postings context records) (all_posts context records) (sector_sum context (spans_of context.nodesize records)) least bad
    (are_sums context records sound)
    (one_least (is_broken_by (all_posts context records)) least (least_broken (all_posts context records)) is_least (least_is_least (all_posts context records)))
    (least_sector context records bad sound is_bad_first)))
