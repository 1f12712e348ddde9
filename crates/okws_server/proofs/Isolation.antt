-- Isolation between two runs of `play`.
use Rattle.std.proofs.Common.{◌≡◌, ℕ, List, [], ◌∷◌, Option, Some, map, refl, sym, ap, ◌∙◌, Ok}
use Rattle.okws_base.specs.Runs.{Each}
use Rattle.okws_plan.specs.declared.configuration.Config.{Config}
use Rattle.config_reader.proofs.SoundMeaning.{sound_read, ruled_read}
use Rattle.monitor_model.specs.Cell.{heard}
use Rattle.monitor_model.specs.Merged.{cell_past}
use Rattle.monitor_model.specs.Sent.{sents_of, all_booted, AreGivenAll}
use Rattle.monitor_model.specs.declared.record.CellEvent.{CellEvent}
use Rattle.monitor_model.specs.declared.record.CellEvent.TheVariants as cell
use Rattle.monitor_model.specs.declared.record.Record.{Record}
use Rattle.monitor_model.specs.declared.sent.Sent.{Sent}
use Rattle.two_worlds.specs.Agreement.{LawfulConfig}
use Rattle.two_worlds.specs.Laws.{HearsTheSame}
use Rattle.two_worlds.specs.Story.{StoryEvent, Boots, Talks, IsStory}
use Rattle.okws_server.specs.Isolation.{AgreeingRunsGiveTheSame}
use Rattle.okws_server.specs.Ran.{GivesConfig, zero_seed}

-- The incarnations that a story boots.
abbrev booted_in : List StoryEvent → List ℕ
booted_in [] = []
booted_in (Boots k ∷ story) = k ∷ booted_in story
booted_in (Talks how items due ∷ story) = booted_in story

-- A story boots what its journal does.
told_booted : (C : Config) (R : Record) (s : ℕ) (J : List CellEvent) (story : List StoryEvent) → IsStory C R s J story → all_booted J ≡ booted_in story
told_booted C R s [] story h = sym (ap booted_in h)
told_booted C R s (cell.Boot k ∷ J) story h = ap (λ ks. k ∷ ks) (told_booted C R s J h.0 h.2) ∙ sym (ap booted_in h.1)
told_booted C R s (cell.Retired ∷ J) story h = told_booted C R s J story h
told_booted C R s (cell.Missed worker wanted is ∷ J) story h = told_booted C R s J story h
told_booted C R s (cell.Dialog d ∷ J) story h = told_booted C R s J h.0 h.6 ∙ sym (ap booted_in h.3)
told_booted C R s (cell.Speaking worker items ∷ J) story h = told_booted C R s J h.0 h.4 ∙ sym (ap booted_in h.2)

abbrev made : ℕ → Option (List ℕ) → Sent
made k given = record { incarnation = k; given = given }

same_sent : (x y : Sent) → x.incarnation ≡ y.incarnation → x.given ≡ y.given → x ≡ y
same_sent x y number given = ap (λ (k : ℕ). made k x.given) number ∙ ap (made y.incarnation) given

-- Links of the same incarnations that were given the same are the same.
same_sents : (f g : ℕ → List ℕ) (xs ys : List Sent) → ((k : ℕ) → f k ≡ g k) → map (λ (x : Sent). x.incarnation) xs ≡ map (λ (x : Sent). x.incarnation) ys
    → Each (λ (x : Sent). x.given ≡ Some (f x.incarnation)) xs → Each (λ (x : Sent). x.given ≡ Some (g x.incarnation)) ys → xs ≡ ys
same_sents f g [] [] same numbers one other = refl
same_sents f g [] (y ∷ ys) same numbers one other = cc
same_sents f g (x ∷ xs) [] same numbers one other = cc
same_sents f g (x ∷ xs) (y ∷ ys) same numbers one other =
    let number : x.incarnation ≡ y.incarnation = cc in
    let rest : map (λ (z : Sent). z.incarnation) xs ≡ map (λ (z : Sent). z.incarnation) ys = cc in
    let given : x.given ≡ y.given = one.0 ∙ ap Some (ap f number ∙ same y.incarnation) ∙ sym other.0 in
    let first : x ≡ y = same_sent x y number given in
    let others : xs ≡ ys = same_sents f g xs ys same rest one.1 other.1 in
    rw (first, others) refl

lawful_config : (told : Option (List ℕ)) (C : Config) → GivesConfig told C → LawfulConfig C
lawful_config told C h = record { sound = sound_read h.0 (Ok C) h.2; rules = ruled_read h.0 (Ok C) h.2 }

pub given_the_same : HearsTheSame → AgreeingRunsGiveTheSame
given_the_same hears_the_same told other C D lines more R Q printed text s one two first second agree in_C in_D =
    let there : AreGivenAll C zero_seed s (cell_past R s) (sents_of R s) = first.heard s in_C in
    let here : AreGivenAll D zero_seed s (cell_past Q s) (sents_of Q s) = second.heard s in_D in
    let booted : all_booted (cell_past R s) ≡ all_booted (cell_past Q s) =
    told_booted C R s (cell_past R s) agree.story.0 agree.story.1 ∙ sym (told_booted D Q s (cell_past Q s) agree.story.0 agree.story.2) in
    let heard_same : (k : ℕ) → heard C zero_seed s k (cell_past R s) ≡ heard D zero_seed s k (cell_past Q s) =
    hears_the_same C D zero_seed _ _ 0 0 R Q s (lawful_config told C one) (lawful_config other D two) first.lawful second.lawful agree in
    same_sents _ _ (sents_of R s) (sents_of Q s) heard_same (there.all ∙ booted ∙ sym here.all) there.each here.each
