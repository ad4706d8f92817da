-- What records post, as their lists grow by one.
use Rattle.std.proofs.Common.{◌≡◌, ℕ, ◌+◌, ◌<◌, List, [], ◌∷◌, ◌++◌, length, map, take, get_or, Option, Some, None, Result, Ok, Err, OnOk, option_to_list, refl, ap, sym, ◌∙◌, append-nil}
use Rattle.std.specs.List.{cons_option, filter_map, flat_map}
use Rattle.std.proofs.lemmas.List.{append_assoc, map-append, map_more, take_more}
use Rattle.std.proofs.lemmas.List.Concat.{flat_map-append}
use Rattle.std.proofs.lemmas.List.Elements.{filter_map-append}
use Rattle.accounts.specs.Context.{Context}
use Rattle.accounts.specs.declared.postings.Posting.{Posting}
use Rattle.change_records.specs.declared.changes.ItemChange.{ItemChange}
use Rattle.change_records.specs.declared.item_ref.ItemRef.{ItemRef}
use Rattle.live_index.specs.declared.live.Live.{Live}
use Rattle.records.specs.Contents.{super_record}
use Rattle.records.specs.Part.{owned_part}
use Rattle.records.specs.Part.{Located, Part}
use Rattle.records.specs.declared.rec.ItemAt.{ItemAt}
use Rattle.super_reader.specs.declared.Super.{Super}
use Rattle.tree_change.specs.Gathered.{located_item}
use Rattle.commit_laws.specs.Kept.{placed_postings}
use Rattle.commit_laws.specs.Paired.{came_items, came_of, gone_items, gone_of}
use Rattle.commit_laws.specs.Same.{live_record}
use Rattle.commit_laws.specs.Steps.{all_posts, change_records, posts_of, step_posts}
use Rattle.commit_judge.specs.Posting.{posts_at}

-- what a list posts, and another behind it
posts_joined : (context : Context) (rs ss : List Located) → all_posts context (rs ++ ss) ≡ all_posts context rs ++ all_posts context ss
unfolding all_posts
posts_joined context rs ss = flat_map-append (posts_of context) rs ss

-- what one record posts
pub posts_one : (context : Context) (one : Located) → all_posts context (one ∷ []) ≡ posts_of context one
unfolding all_posts
posts_one context one = append-nil (posts_of context one)

-- ---- blocks

pub blocks_more : (context : Context) (sup : Super) (blocks : List Live) (i : ℕ) (d : Live) (now next : List Posting) → i < length blocks
    → now ≡ all_posts context (super_record sup ∷ map live_record (take i blocks))
    → next ≡ now ++ posts_of context (live_record (get_or blocks i d))
    → next ≡ all_posts context (super_record sup ∷ map live_record (take (i + 1) blocks))
blocks_more context sup blocks i d now next inside so is =
    is
    ∙ ap (λ l. l ++ posts_of context (live_record (get_or blocks i d))) so
    ∙ ap (λ l. all_posts context (super_record sup ∷ map live_record (take i blocks)) ++ l)
    (sym (posts_one context (live_record (get_or blocks i d))))
    ∙ sym (posts_joined context (super_record sup ∷ map live_record (take i blocks)) (live_record (get_or blocks i d) ∷ []))
    ∙ ap (λ l. all_posts context (super_record sup ∷ l)) (sym (map_more live_record blocks i d inside))

-- ---- items

-- what an item posts
pub item_some : {T E : Type 0} (context : Context) (item : ItemAt) (got : Option ItemAt) (part : Part) (old new : List Posting) (result : Result T E)
    → got ≡ Some item → part ≡ owned_part item.part → OnOk result (new ≡ old ++ posts_at context item.tree part)
    → OnOk result (new ≡ old ++ all_posts context (map located_item (option_to_list got)))
item_some context item got part old new (Ok t) is lent posts =
    posts
    ∙ ap (λ p. old ++ posts_at context item.tree p) lent
    ∙ ap (λ l. old ++ l) (sym (posts_one context (located_item item)))
    ∙ ap (λ o. old ++ all_posts context (map located_item (option_to_list o))) (sym is)
item_some context item got part old new (Err e) is lent posts = tt

-- no item posts nothing
pub item_none : (context : Context) (got : Option ItemAt) (old : List Posting) → got ≡ None
    → old ≡ old ++ all_posts context (map located_item (option_to_list got))
unfolding all_posts
item_none context got old is =
    sym (append-nil old) ∙ ap (λ o. old ++ all_posts context (map located_item (option_to_list o))) (sym is)

-- what items post, and one more where there is one
more_items : {A : Type 0} (context : Context) (sup : Super) (blocks : List Live) (of : A → Option ItemAt) (xs : List A) (i : ℕ) (d : A)
    (now next : List Posting) → i < length xs
    → now ≡ all_posts context (change_records sup blocks (map located_item (filter_map of (take i xs))))
    → next ≡ now ++ all_posts context (map located_item (option_to_list (of (get_or xs i d))))
    → next ≡ all_posts context (change_records sup blocks (map located_item (filter_map of (take (i + 1) xs))))
more_items {A} context sup blocks of xs i d now next inside so is =
    is
    ∙ ap (λ l. l ++ all_posts context one) so
    ∙ sym (posts_joined context (change_records sup blocks front) one)
    ∙ ap (λ l. all_posts context (super_record sup ∷ l)) (append_assoc (map live_record blocks) front one)
    ∙ ap (λ l. all_posts context (change_records sup blocks l)) (sym grown)
  where
    front : List Located
    front = map located_item (filter_map of (take i xs))

    one : List Located
    one = map located_item (option_to_list (of (get_or xs i d)))

    listed : (o : Option ItemAt) → cons_option o [] ≡ option_to_list o
    listed None = refl
    listed (Some item) = refl

    grown : map located_item (filter_map of (take (i + 1) xs)) ≡ front ++ one
    grown = ap (λ l. map located_item (filter_map of l)) (take_more xs i d inside)
        ∙ ap (map located_item) (filter_map-append of (take i xs) (get_or xs i d ∷ []))
        ∙ ap (λ l. map located_item (filter_map of (take i xs) ++ l)) (listed (of (get_or xs i d)))
        ∙ map-append located_item (filter_map of (take i xs)) (option_to_list (of (get_or xs i d)))

-- none are gone or came yet
pub gone_none : (context : Context) (sup : Super) (blocks : List Live) (items : List ItemAt)
    → all_posts context (super_record sup ∷ map live_record blocks) ≡ all_posts context (change_records sup blocks (gone_items items []))
unfolding gone_items
gone_none context sup blocks items = ap (λ l. all_posts context (super_record sup ∷ l)) (sym (append-nil (map live_record blocks)))

pub came_none : (context : Context) (sup : Super) (blocks : List Live) (items : List ItemAt)
    → all_posts context (super_record sup ∷ map live_record blocks) ≡ all_posts context (change_records sup blocks (came_items items []))
unfolding came_items
came_none context sup blocks items = ap (λ l. all_posts context (super_record sup ∷ l)) (sym (append-nil (map live_record blocks)))

-- one change more
pub gone_more : (context : Context) (sup : Super) (blocks : List Live) (items : List ItemAt) (changes : List ItemChange) (i : ℕ) (d : ItemChange)
    (now next : List Posting) (item : Option ItemAt) → i < length changes
    → now ≡ all_posts context (change_records sup blocks (gone_items items (take i changes)))
    → item ≡ gone_of items (get_or changes i d)
    → next ≡ now ++ all_posts context (map located_item (option_to_list item))
    → next ≡ all_posts context (change_records sup blocks (gone_items items (take (i + 1) changes)))
unfolding gone_items
gone_more context sup blocks items changes i d now next item inside so one is =
    more_items context sup blocks (gone_of items) changes i d now next inside so
    (is ∙ ap (λ o. now ++ all_posts context (map located_item (option_to_list o))) one)

pub came_more : (context : Context) (sup : Super) (blocks : List Live) (items : List ItemAt) (changes : List ItemChange) (i : ℕ) (d : ItemChange)
    (now next : List Posting) (item : Option ItemAt) → i < length changes
    → now ≡ all_posts context (change_records sup blocks (came_items items (take i changes)))
    → item ≡ came_of items (get_or changes i d)
    → next ≡ now ++ all_posts context (map located_item (option_to_list item))
    → next ≡ all_posts context (change_records sup blocks (came_items items (take (i + 1) changes)))
unfolding came_items
came_more context sup blocks items changes i d now next item inside so one is =
    more_items context sup blocks (came_of items) changes i d now next inside so
    (is ∙ ap (λ o. now ++ all_posts context (map located_item (option_to_list o))) one)

-- ---- kept items

pub kept_more : (context : Context) (refs : List ItemRef) (i : ℕ) (d : ItemRef) (old now next : List Posting) → i < length refs
    → now ≡ old ++ flat_map (placed_postings context) (take i refs)
    → next ≡ now ++ placed_postings context (get_or refs i d)
    → next ≡ old ++ flat_map (placed_postings context) (take (i + 1) refs)
kept_more context refs i d old now next inside so is =
    is
    ∙ ap (λ l. l ++ placed_postings context (get_or refs i d)) so
    ∙ append_assoc old (flat_map (placed_postings context) (take i refs)) (placed_postings context (get_or refs i d))
    ∙ ap (λ l. old ++ l) (sym grown)
  where
    grown : flat_map (placed_postings context) (take (i + 1) refs)
        ≡ flat_map (placed_postings context) (take i refs) ++ placed_postings context (get_or refs i d)
    grown = ap (flat_map (placed_postings context)) (take_more refs i d inside)
        ∙ flat_map-append (placed_postings context) (take i refs) (get_or refs i d ∷ [])
        ∙ ap (λ l. flat_map (placed_postings context) (take i refs) ++ l) (append-nil (placed_postings context (get_or refs i d)))

-- what a step posts
pub step_is : (context : Context) (rs : List Located) (refs : List ItemRef) (now next : List Posting) → now ≡ all_posts context rs
    → next ≡ now ++ flat_map (placed_postings context) refs → next ≡ step_posts context rs refs
unfolding step_posts
step_is context rs refs now next so is = is ∙ ap (λ l. l ++ flat_map (placed_postings context) refs) so
