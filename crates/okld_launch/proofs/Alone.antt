-- That one child of a service runs at a time, as children are started and finished.
use Rattle.std.proofs.Common.{◌≡◌, ◌∙◌, ℕ, List, [], ◌∷◌, ◌++◌, length, refl, sym, ap, arith, append_assoc, length-append}
use Rattle.std.specs.Prelude.{count_by}
use Rattle.okws_outer.specs.Families.{Family}
use Rattle.okws_outer.specs.declared.children.ChildEnd.{ChildEnd}
use Rattle.okws_outer.specs.declared.children.ChildStart.{ChildStart}
use Rattle.launch_crew.specs.Finished.{is_end_of}
use Rattle.okld_launch.specs.Kin.{AreAlone, is_start_of}

-- children were finished
pub alone_more : (old : ℕ) (more : List ChildEnd) (starts : List ChildStart) (ends : List ChildEnd) → AreAlone old starts ends → AreAlone old starts (more ++ ends)
alone_more old more [] ends h = tt
alone_more old more (x ∷ starts) ends h = (
  record {
    later = more ++ (h.0).later;
    before = (h.0).before;
    parts = ap (λ (es : List ChildEnd). more ++ es) (h.0).parts ∙ sym (append_assoc more (h.0).later (h.0).before);
    counted = (h.0).counted;
    gone = (h.0).gone;
  },
  alone_more old more starts ends h.1,
)

-- a child was started of whose service none ran
pub alone_next : (first now : Family) (x : ChildStart) (starts : List ChildStart) (ends : List ChildEnd) → now.finished ≡ ends ++ first.finished → x.after ≡ length now.finished →
    ((k : ℕ) → count_by (is_start_of x.service k) starts ≡ count_by (is_end_of x.service k) ends) → AreAlone (length first.finished) starts ends → AreAlone (length first.finished) (x ∷ starts) ends
alone_next first now x starts ends is after same h = (
  record {
    later = [];
    before = ends;
    parts = refl;
    counted = after ∙ (ap length is ∙ length-append ends first.finished);
    gone = λ k some. omega (arith, same k, some);
  },
  h,
)
