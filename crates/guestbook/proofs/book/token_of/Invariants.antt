use Rattle.std.proofs.Common.{◌≡◌, drop}
use Rattle.guestbook.specs.Book.{token_in}
use Rattle.guestbook.proofs.book.token_of.Given as goal

abbrev pub invariant-loop-issued : goal.invariant-loop-issued
invariant-loop-issued l = token_in (drop l.issued-index l.tokens) ≡ token_in l.tokens
