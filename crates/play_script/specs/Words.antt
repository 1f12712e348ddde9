-- The words of a drill, and what each asks for.
use Rattle.std.specs.Prelude.{ℕ, ◌/◌, ◌%◌, ◌==◌, List, ◌++◌, replicate, if◌then◌else◌}
use Rattle.std.specs.Int.{w64, to_be_bytes}
use Rattle.token_core.specs.Token.{word}
use Rattle.play_script.specs.declared.words.Act.{Act}
use Rattle.play_script.specs.declared.words.Act.TheVariants.{Publish, Relaunch, Select, Insert, Delete, OpenAsFirst, Get, Log}

-- The seed of a drill's words: its number in 8 bytes, the high one first, and 24 bytes of zero.
unfoldable pub drill_seed : ℕ → List ℕ
drill_seed number = to_be_bytes w64 number ++ replicate 24 0

-- The word at a place, counted from 0: that of stream 0 of ChaCha20 under the drill's seed.
unfoldable pub drill_word : ℕ → ℕ → ℕ
drill_word number place = word (drill_seed number) 0 place

-- What a word asks for, by its lowest three bits.
abbrev pub act_of : ℕ → Act
act_of w =
    if (w % 8) == 0 then Publish
    else if (w % 8) == 1 then Relaunch
    else if (w % 8) == 2 then Select
    else if (w % 8) == 3 then Insert
    else if (w % 8) == 4 then Delete
    else if (w % 8) == 5 then OpenAsFirst
    else if (w % 8) == 6 then Get
    else Log

-- The service that a word is about, by its fourth bit: 0 is guest, 1 is other.
abbrev pub service_of : ℕ → ℕ
service_of w = (w / 8) % 2

-- The id of the row that a word is about, by its fifth to seventh bit.
abbrev pub number_of : ℕ → ℕ
number_of w = (w / 16) % 8
