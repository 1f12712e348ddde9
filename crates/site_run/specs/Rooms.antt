-- Memory that a run takes before it begins.
use Rattle.std.specs.Prelude.{◌≡◌, ◌≤◌, ◌+◌, ℕ, List, [], length}
use Rattle.okws_plan.specs.declared.configuration.Config.{Config}
use Rattle.launch_journal.specs.Launches.{Launches}
use Rattle.turn_lock.specs.BoardSeats.{BoardIs, IsFresh, AreRising}
use Rattle.turn_lock.specs.BoardSeats.{SeatIs as Place}
use Rattle.launch_turns.specs.Papers.{ArePapers}

-- An empty vector, of this length and this capacity, has room for n items.
pub record HasRoom (n len capacity : ℕ) : Type 0 where
  pub empty : len ≡ 0
  pub room : n ≤ capacity

-- A board for the numbers of connections and so many seats at it, those of number 0 first, and behind them the last one; from none of them was a number drawn.
pub record AreOffered (doors : ℕ) (numbers : BoardIs) (places : List Place) (last : Place) : Type 0 where
  pub count_is : numbers.count ≡ doors + 1
  pub many : length places ≡ doors
  pub rising : AreRising numbers.id 0 places
  pub last_is : IsFresh numbers.id doors last

-- What a run needs beside its locks: the site, what its launcher takes, the numbers of its connections, how many lines of the console were read, and for how many doors there is room at its end.
pub record StockIs : Type 0 where
  pub shown : Config
  pub journal : Launches
  pub site : Config
  pub seed : List ℕ
  pub numbers : BoardIs
  pub places : List Place
  pub last : Place
  pub lines : ℕ
  pub room : ℕ

-- It is that of a run of this site and this seed with so many doors, which did not begin.
pub record IsStock (C : Config) (seed : List ℕ) (doors : ℕ) (x : StockIs) : Type 0 where
  pub shown_is : x.shown ≡ C
  pub papers : ArePapers C seed x.journal x.site x.seed
  pub offered : AreOffered doors x.numbers x.places x.last
  pub first : x.lines ≡ 0
  pub room_is : x.room ≡ doors
