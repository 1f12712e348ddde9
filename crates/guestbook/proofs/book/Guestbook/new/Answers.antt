use Rattle.std.proofs.Common.{ℕ, List, None, ap}
use Rattle.std.specs.Prelude.{Option, option_map, codes}
use Rattle.guestbook.specs.Book.{Book}
use Rattle.guestbook.proofs.book.Guestbook.new.Goals as goal

pub returns-clause-book : goal.returns-clause-book
returns-clause-book c =
    ap (λ (pages : List ℕ → Option (ℕ × List ℕ)). let book : Book = record { token = None; session = None; page = option_map (λ p. p.1) (pages (codes "page")) } in book) c.new.ensures.pages
