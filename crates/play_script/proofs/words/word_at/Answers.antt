use Rattle.std.proofs.Common.{◌≡◌, ◌∙◌, ◌%◌, ◌^◌, ℕ, ap, arith}
use Rattle.token_core.specs.Token.{word}
use Rattle.play_script.proofs.words.word_at.Goals as goal

pub returns : goal.returns
returns c =
    let same : c.from.result % 2 ^ 68 ≡ c.args.place = omega (arith, c.from.ensures, c.ranges.place.fits) in
    c.word.ensures ∙ ap (λ (n : ℕ). word c.args.seed.now 0 n) same
