use Rattle.std.proofs.Common.{◌≡◌, ◌++◌, map, take}
use Rattle.std.specs.Prelude.{string_bytes}
use Rattle.command_line.proofs.parts.Parts.take_all.Given as goal

abbrev pub invariant-loop-word : goal.invariant-loop-word
invariant-loop-word l = record {
  own : map (λ s. s.now) l.self.own.items ≡ map (λ s. s.now) l.fn.self.own.items ++ map string_bytes (take l.word-index l.words);
  options : l.self.options.items ≡ l.fn.self.options.items;
}
