-- How puts follow on one another.
use Rattle.std.proofs.Common.{◌≡◌, ◌≤◌, ℕ, ◌+◌, List, [], ◌++◌, length, refl, sym, ap, subst, ◌∙◌, arith, append_assoc}
use Rattle.std.specs.declared.result.Result.{Result}
use Rattle.std.specs.declared.result.Result.TheVariants.{Ok, Err}
use Rattle.std.proofs.KnownBytes.{Appends-trans, Appends-nil}
use Rattle.std.specs.Io.KnownBytes.{Appends}
use Rattle.std.proofs.lemmas.List.{length-append, append-nil}
use Rattle.std.specs.Prelude.{MatchResult}
use Rattle.okws_outer.specs.Streams.{Rose, AppendsPrefix}
use Rattle.okws_outer.proofs.Given.{prefix_after, prefix_of_part}
use Rattle.okws_outer.specs.Wire.{Wire, Gives}
use Rattle.frame_link.specs.Sending.{Gathers, Sends}
use Rattle.frame_link.specs.declared.sending.LinkFault.{LinkFault}

rose_later : (a b c : ℕ) → a ≤ b → Rose b c → Rose a c
rose_later a b c le rose = omega (arith, rose)

pub gives_then : (start mid new : Wire) (n m k : ℕ) (done : Type 0) → k ≡ n + m → Gives start mid n (Unit {0}) → Gives mid new m done → Gives start new k done
gives_then start mid new n m k done e a b = record {
  faults = record { later = omega (arith, a.faults.later, b.faults.later); cause = λ fault. rose_later start.faults mid.faults new.faults a.faults.later (b.faults.cause fault) };
  still = λ done. b.still done ∙ a.still tt;
  sure = λ steady room. b.sure (a.steady ∙ steady) (omega (arith, e, room, a.room));
  whose = b.whose ∙ a.whose;
  came = b.came ∙ a.came;
  left = b.left ∙ a.left;
  untold = λ none. b.untold (a.untold none);
  steady = b.steady ∙ a.steady;
  ended = b.ended ∙ a.ended;
  room = omega (arith, e, a.room, b.room);
}

pub done_so_far : (start mid : Wire) (n : ℕ) (done : Type 0) → done → Gives start mid n done → Gives start mid n (Unit {0})
done_so_far start mid n done is a = record { faults = record { later = a.faults.later; cause = λ fault. absurd (fault tt) }; still = λ _. a.still is; sure = λ steady room. tt; whose = a.whose; came = a.came; left = a.left; untold = a.untold; steady = a.steady; ended = a.ended; room = a.room }

pub sends_then : (start mid new : Wire) (text bytes : List ℕ) (result : Result (Unit {0}) LinkFault) → Sends start text (Ok tt) mid → Sends mid bytes result new → Sends start (text ++ bytes) result new
sends_then start mid new text bytes result a b = record {
  puts = both result b.puts;
  link = gives_then start mid new (length text) (length bytes) (length (text ++ bytes)) (result ≡ Ok tt) (length-append text bytes) (done_so_far start mid (length text) (Ok tt ≡ Ok tt) refl a.link) b.link;
}
  where
    both : (r : Result (Unit {0}) LinkFault) → MatchResult r (λ _. Appends mid.given new.given bytes) (λ _. AppendsPrefix mid.given new.given bytes)
        → MatchResult r (λ _. Appends start.given new.given (text ++ bytes)) (λ _. AppendsPrefix start.given new.given (text ++ bytes))
    both (Ok done) more = Appends-trans start.given mid.given new.given text bytes a.puts more
    both (Err fault) more = prefix_after start.given mid.given new.given text bytes a.puts more

-- ---- what is gathered

-- after a fault nothing more was put
sends_more : (start new : Wire) (text bytes : List ℕ) (fault : LinkFault) → Sends start text (Err fault) new → Sends start (text ++ bytes) (Err fault) new
sends_more start new text bytes fault a = record {
  puts = prefix_of_part start.given new.given text bytes a.puts;
  link = record {
    faults = record { later = a.link.faults.later; cause = λ none. a.link.faults.cause (λ is. cc) };
    still = λ is. cc;
    sure = λ steady room. let done = a.link.sure steady (omega (arith, room, length-append text bytes)) in cc;
    whose = a.link.whose;
    came = a.link.came;
    left = a.link.left;
    untold = a.link.untold;
    steady = a.link.steady;
    ended = a.link.ended;
    room = omega (arith, a.link.room, length-append text bytes);
  };
}

pub gathers_more : (start new : Wire) (text gathered bytes : List ℕ) (sent : Result (Unit {0}) LinkFault) → Gathers start text sent gathered new → Gathers start (text ++ bytes) sent (gathered ++ bytes) new
gathers_more start new text gathered bytes (Ok done) g = (g.0, ap (λ (t : List ℕ). t ++ bytes) g.1 ∙ append_assoc g.0 gathered bytes, g.2)
gathers_more start new text gathered bytes (Err fault) g = sends_more start new text bytes fault g

-- what is gathered is put
pub gathers_put : (start mid new : Wire) (text gathered : List ℕ) (before after : Result (Unit {0}) LinkFault) → before ≡ Ok tt → Gathers start text before gathered mid → Sends mid gathered after new → Gathers start text after [] new
gathers_put start mid new text gathered before after is g s = ended after (subst (λ (t : List ℕ). Sends start t after new) (sym now.1) (sends_then start mid new now.0 gathered after now.2 s))
  where
    now : Gathers start text (Ok tt) gathered mid
    now = subst (λ (r : Result (Unit {0}) LinkFault). Gathers start text r gathered mid) is g

    ended : (r : Result (Unit {0}) LinkFault) → Sends start text r new → Gathers start text r [] new
    ended (Ok done) sends = (text, sym (append-nil text), sends)
    ended (Err fault) sends = sends

-- bytes are put by themselves, where nothing is gathered
pub gathers_alone : (start mid : Wire) (text bytes : List ℕ) (sent : Result (Unit {0}) LinkFault) → Gathers start text sent [] mid → Gathers start (text ++ bytes) sent bytes mid
gathers_alone start mid text bytes sent g = gathers_more start mid text [] bytes sent g

pub gathers_all : (start new : Wire) (text : List ℕ) (sent : Result (Unit {0}) LinkFault) → Gathers start text sent [] new → Sends start text sent new
gathers_all start new text (Ok done) g = subst (λ (t : List ℕ). Sends start t (Ok done) new) (sym (g.1 ∙ append-nil g.0)) g.2
gathers_all start new text (Err fault) g = g

pub gathers_failed : (start new : Wire) (text gathered : List ℕ) (sent : Result (Unit {0}) LinkFault) → (sent ≡ Ok tt → ⊥) → Gathers start text sent gathered new → Gathers start text sent [] new
gathers_failed start new text gathered (Ok done) failed g = absurd (failed refl)
gathers_failed start new text gathered (Err fault) failed g = g
