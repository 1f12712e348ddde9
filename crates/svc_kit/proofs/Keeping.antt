-- What is kept of each template.
use Rattle.std.proofs.Common.{◌≡◌, ℕ, suc, ◌+◌, ◌<◌, Bool, true, false, cond, List, [], ◌∷◌, ◌++◌, length, take, drop, slice_index_or, Some, None, refl, sym, ap, ◌∙◌, subst, add-one, arith}
use Rattle.std.specs.Prelude.{Option, slice_set}
use Rattle.std.specs.Cmp.Lexicographic.{bytes_decides}
use Rattle.std.proofs.Math.Seq.{drop-cons, take-suc}
use Rattle.std.proofs.lemmas.Grind.{common_steps}
use Rattle.std.proofs.lemmas.List.{set_split}
use Rattle.okws_base.specs.Value.{same_bytes}
use Rattle.svc_kit.specs.Pages.{page_in}
use Rattle.svc_kit.specs.declared.pages.Page.{Page}

or_behind : Option (ℕ × List ℕ) → Option (ℕ × List ℕ) → Option (ℕ × List ℕ)
or_behind None behind = behind
or_behind (Some page) behind = Some page

append_by : (front back : List Page) (name : List ℕ) (page : Page) (t : Bool) → page_in (front ++ back) name ≡ or_behind (page_in front name) (page_in back name)
    → cond t (Some (page.edition, page.content)) (page_in (front ++ back) name) ≡ or_behind (cond t (Some (page.edition, page.content)) (page_in front name)) (page_in back name)
unfolding or_behind
append_by front back name page true more = refl
append_by front back name page false more = more

page_append : (front back : List Page) (name : List ℕ) → page_in (front ++ back) name ≡ or_behind (page_in front name) (page_in back name)
unfolding or_behind
page_append [] back name = refl
page_append (page ∷ front) back name = append_by front back name page (same_bytes page.name name) (page_append front back name)

behind_none : (front back : List Page) (name : List ℕ) → page_in front name ≡ None → page_in (front ++ back) name ≡ page_in back name
unfolding or_behind
behind_none front back name none = page_append front back name ∙ ap (λ (o : Option (ℕ × List ℕ)). or_behind o (page_in back name)) none

same_is : (one other : List ℕ) → same_bytes one other ≡ true → one ≡ other
same_is one other same = (bytes_decides one other).0 same

-- one page more that isn't the template's
pub none_more : (pages : List Page) (name : List ℕ) (i : ℕ) (page : Page) → i < length pages → page ≡ slice_index_or pages i page → page_in (take i pages) name ≡ None → same_bytes page.name name ≡ false
    → page_in (take (i + 1) pages) name ≡ None
none_more pages name i page below is none other =
    let more : take (i + 1) pages ≡ take i pages ++ page ∷ [] = ap (λ (n : ℕ). take n pages) (add-one i) ∙ take-suc pages i page below ∙ ap (λ (p : Page). take i pages ++ p ∷ []) (sym is) in
    ap (λ (p : List Page). page_in p name) more ∙ behind_none (take i pages) (page ∷ []) name none ∙ rw other refl

-- the page in the middle is the template's
put_by : (front back : List Page) (old new : Page) (name other : List ℕ) (t : Bool) → same_bytes name other ≡ t → page_in front name ≡ None → old.name ≡ name → new.name ≡ name
    → page_in (front ++ new ∷ back) other ≡ cond t (Some (new.edition, new.content)) (page_in (front ++ old ∷ back) other)
unfolding or_behind
put_by front back old new name other true same none was is =
    let front_none = subst (λ (n : List ℕ). page_in front n ≡ None) (same_is name other same) none in
    let test : same_bytes new.name other ≡ true = ap (λ (n : List ℕ). same_bytes n other) is ∙ same in
    behind_none front (new ∷ back) other front_none ∙ ap (λ (t : Bool). cond t (Some (new.edition, new.content)) (page_in back other)) test
put_by front back old new name other false same none was is =
    let test : same_bytes new.name other ≡ false = ap (λ (n : List ℕ). same_bytes n other) is ∙ same in
    let before : same_bytes old.name other ≡ false = ap (λ (n : List ℕ). same_bytes n other) was ∙ same in
    page_append front (new ∷ back) other ∙ ap (λ (t : Bool). or_behind (page_in front other) (cond t (Some (new.edition, new.content)) (page_in back other))) test
    ∙ sym (page_append front (old ∷ back) other ∙ ap (λ (t : Bool). or_behind (page_in front other) (cond t (Some (old.edition, old.content)) (page_in back other))) before)

whole : (pages : List Page) (i : ℕ) (page : Page) → i < length pages → pages ≡ take i pages ++ slice_index_or pages i page ∷ drop (suc i) pages
whole pages i page below = grind (arith, common_steps, drop-cons pages i page)

pub put_in_place : (pages : List Page) (name other : List ℕ) (i : ℕ) (old new : Page) → i < length pages → page_in (take i pages) name ≡ None → old ≡ slice_index_or pages i old → same_bytes (slice_index_or pages i old).name name ≡ true
    → new.name ≡ old.name → page_in (slice_set pages i new) other ≡ cond (same_bytes name other) (Some (new.edition, new.content)) (page_in pages other)
put_in_place pages name other i old new below none is same keeps =
    let named : old.name ≡ name = ap (λ (p : Page). p.name) is ∙ same_is _ _ same in
    let parts : pages ≡ take i pages ++ old ∷ drop (suc i) pages = whole pages i old below ∙ ap (λ (p : Page). take i pages ++ p ∷ drop (suc i) pages) (sym is) in
    ap (λ (p : List Page). page_in p other) (set_split pages i new below) ∙ put_by (take i pages) (drop (suc i) pages) old new name other (same_bytes name other) refl none named (keeps ∙ named)
    ∙ ap (λ (p : List Page). cond (same_bytes name other) (Some (new.edition, new.content)) (page_in p other)) (sym parts)

last_by : (page : Page) (other : List ℕ) (t : Bool) (before : Option (ℕ × List ℕ)) → (t ≡ true → before ≡ None) → or_behind before (cond t (Some (page.edition, page.content)) None) ≡ cond t (Some (page.edition, page.content)) before
unfolding or_behind
last_by page other true before none = ap (λ (o : Option (ℕ × List ℕ)). or_behind o (Some (page.edition, page.content))) (none refl)
last_by page other false None none = refl
last_by page other false (Some before) none = refl

pub put_last : (pages : List Page) (name other : List ℕ) (page : Page) → page_in pages name ≡ None → page.name ≡ name
    → page_in (pages ++ page ∷ []) other ≡ cond (same_bytes name other) (Some (page.edition, page.content)) (page_in pages other)
put_last pages name other page none is =
    page_append pages (page ∷ []) other ∙ ap (λ (n : List ℕ). or_behind (page_in pages other) (cond (same_bytes n other) (Some (page.edition, page.content)) None)) is
    ∙ last_by page other (same_bytes name other) (page_in pages other) (λ same. subst (λ (n : List ℕ). page_in pages n ≡ None) (same_is name other same) none)

-- a page that was found is what is kept
pub found : (pages : List Page) (name : List ℕ) (i : ℕ) (page : Page) → i < length pages → page_in (take i pages) name ≡ None → page ≡ slice_index_or pages i page → same_bytes (slice_index_or pages i page).name name ≡ true
    → Some (page.edition, page.content) ≡ page_in pages name
found pages name i page below none is same =
    let test : same_bytes page.name name ≡ true = ap (λ (p : Page). same_bytes p.name name) is ∙ same in
    let parts : pages ≡ take i pages ++ page ∷ drop (suc i) pages = whole pages i page below ∙ ap (λ (p : Page). take i pages ++ p ∷ drop (suc i) pages) (sym is) in
    sym (ap (λ (p : List Page). page_in p name) parts ∙ behind_none (take i pages) (page ∷ drop (suc i) pages) name none ∙ ap (λ (t : Bool). cond t (Some (page.edition, page.content)) (page_in (drop (suc i) pages) name)) test)
