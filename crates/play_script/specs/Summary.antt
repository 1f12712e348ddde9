-- The summary of a drill: how many frames of each kind were heard, and how many were denied by each rule.
use Rattle.std.specs.Prelude.{◌≡◌, ℕ, ◌-◌, ◌^◌, min, Bool, true, false, ◌==◌, List, [], ◌∷◌, ◌++◌, count_by, flat_map, codes, decimal, slice_index_or, if◌then◌else◌}
use Rattle.std.specs.List.{list_all}
use Rattle.okws_base.specs.Names.{is_name}
use Rattle.okws_plan.specs.Configuration.{numbered_from}
use Rattle.okws_plan.specs.Lines.{service_names}
use Rattle.okws_plan.specs.declared.configuration.Config.{Config}
use Rattle.frame_codec.specs.declared.frame.ServerFrame.{ServerFrame}
use Rattle.frame_codec.specs.declared.frame.ServerFrame.TheVariants as frame
use Rattle.monitor_model.specs.Told.{Told, ToldFrame, ToldAnswer, told_text}
use Rattle.play_script.specs.Tally.{Tallied, tally_of}

-- The kind of a frame, as the byte that its spelling has.
abbrev pub kind_of : ServerFrame → ℕ
kind_of (frame.Boot s k tokens) = 1
kind_of (frame.Request head content) = 2
kind_of (frame.Push template edition content) = 3
kind_of (frame.Opened n) = 4
kind_of (frame.Rows columns rows) = 5
kind_of (frame.Changed n) = 6
kind_of (frame.Template edition content) = 7
kind_of frame.Logged = 8
kind_of (frame.Denied rule) = 9
kind_of frame.Failed = 10
kind_of frame.NoMemory = 11
kind_of frame.Duplicate = 12

-- A frame is Denied by this rule.
abbrev pub is_denied_by : ℕ → ServerFrame → Bool
is_denied_by rule (frame.Denied n) = n == rule
is_denied_by rule _ = false

-- A count as it is kept: it stays at the greatest number of 64 bits.
abbrev pub kept : ℕ → ℕ
kept n = min n (2 ^ 64 - 1)

-- How many frames are of a kind.
abbrev pub of_this_kind : List ServerFrame → ℕ → ℕ
of_this_kind frames kind = kept (count_by (λ (f : ServerFrame). kind_of f == kind) frames)

-- How many frames are Denied by a rule.
abbrev pub by_this_rule : List ServerFrame → ℕ → ℕ
by_this_rule frames rule = kept (count_by (is_denied_by rule) frames)

-- A name, a count and LF.
abbrev pub count_line : List ℕ → ℕ → List ℕ
count_line name n = name ++ 32 ∷ decimal n ++ 10 ∷ []

-- `denied RULE COUNT` and LF for a rule that came, and nothing for another.
abbrev pub denied_line : (ℕ → ℕ) → ℕ → List ℕ
denied_line rules rule = if rules rule == 0 then [] else count_line (codes "denied " ++ decimal rule) (rules rule)

-- The lines of counts by kind, in their order.
abbrev pub kind_lines : (ℕ → ℕ) → List ℕ
kind_lines kinds =
    count_line (codes "boots") (kinds 1) ++ count_line (codes "requests") (kinds 2) ++ count_line (codes "pushes") (kinds 3) ++ count_line (codes "opened") (kinds 4)
    ++ count_line (codes "rows") (kinds 5) ++ count_line (codes "changed") (kinds 6) ++ count_line (codes "duplicates") (kinds 12) ++ count_line (codes "templates") (kinds 7)
    ++ count_line (codes "logged") (kinds 8) ++ count_line (codes "failed") (kinds 10) ++ count_line (codes "nomemory") (kinds 11)

-- The lines of counts by rule, ascending.
abbrev pub rule_lines : (ℕ → ℕ) → List ℕ
rule_lines rules = flat_map (denied_line rules) (numbered_from 0 256)

-- The summary of counts by kind and by rule.
abbrev pub summary_of : (ℕ → ℕ) → (ℕ → ℕ) → List ℕ
summary_of kinds rules = kind_lines kinds ++ rule_lines rules

-- The summary of frames that were heard.
abbrev pub summary : List ServerFrame → List ℕ
summary frames = summary_of (of_this_kind frames) (by_this_rule frames)

-- The counts of a tally by kind.
abbrev pub kinds_of : Tallied → ℕ → ℕ
kinds_of T kind = slice_index_or T.kinds kind 0

-- The counts of a tally by rule.
abbrev pub rules_of : Tallied → ℕ → ℕ
rules_of T rule = slice_index_or T.rules rule 0

-- The frame that a line tells of, if it does.
abbrev pub frame_in : Told → List ServerFrame
frame_in (ToldFrame s k frame) = frame ∷ []
frame_in (ToldAnswer n text) = []

-- The frames that lines tell of, in order.
abbrev pub frames_in : List Told → List ServerFrame
frames_in lines = flat_map frame_in lines

-- What a tally of the lines of a run says is the summary of the frames that the lines tell of, where services have names.
abbrev pub TalliesCount : Type 0
TalliesCount = (C : Config) (lines : List Told) → list_all is_name (service_names C) ≡ true →
    summary_of (kinds_of (tally_of (told_text C lines))) (rules_of (tally_of (told_text C lines))) ≡ summary (frames_in lines)
