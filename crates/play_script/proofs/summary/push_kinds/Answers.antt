use Rattle.std.proofs.Common.{◌≡◌, ◌++◌, ℕ, List, codes}
use Rattle.play_script.specs.Summary.{count_line, kinds_of}
use Rattle.play_script.specs.Tally.{tally_of}
use Rattle.play_script.proofs.Rules.{first_count, next_count}
use Rattle.play_script.proofs.summary.push_kinds.Goals as goal

pub returns : goal.returns
returns c =
    let k : ℕ → ℕ = kinds_of (tally_of c.args.tally.now) in
    let a1 : List ℕ = count_line (codes "boots") (k 1) in
    let s1 : c.push_count.new.text.items ≡ c.args.text.now.items ++ a1 = first_count c.args.text.now.items c.push_count.new.text.items (codes "boots") c.kind.result (k 1) c.in_ok-push_count.ensures c.kind.ensures in
    let a2 : List ℕ = a1 ++ count_line (codes "requests") (k 2) in
    let s2 : c.push_count-2.new.text.items ≡ c.args.text.now.items ++ a2 = next_count c.args.text.now.items c.push_count.new.text.items c.push_count-2.new.text.items a1 (codes "requests") c.kind-2.result (k 2) s1 c.in_ok-push_count-2.ensures c.kind-2.ensures in
    let a3 : List ℕ = a2 ++ count_line (codes "pushes") (k 3) in
    let s3 : c.push_count-3.new.text.items ≡ c.args.text.now.items ++ a3 = next_count c.args.text.now.items c.push_count-2.new.text.items c.push_count-3.new.text.items a2 (codes "pushes") c.kind-3.result (k 3) s2 c.in_ok-push_count-3.ensures c.kind-3.ensures in
    let a4 : List ℕ = a3 ++ count_line (codes "opened") (k 4) in
    let s4 : c.push_count-4.new.text.items ≡ c.args.text.now.items ++ a4 = next_count c.args.text.now.items c.push_count-3.new.text.items c.push_count-4.new.text.items a3 (codes "opened") c.kind-4.result (k 4) s3 c.in_ok-push_count-4.ensures c.kind-4.ensures in
    let a5 : List ℕ = a4 ++ count_line (codes "rows") (k 5) in
    let s5 : c.push_count-5.new.text.items ≡ c.args.text.now.items ++ a5 = next_count c.args.text.now.items c.push_count-4.new.text.items c.push_count-5.new.text.items a4 (codes "rows") c.kind-5.result (k 5) s4 c.in_ok-push_count-5.ensures c.kind-5.ensures in
    let a6 : List ℕ = a5 ++ count_line (codes "changed") (k 6) in
    let s6 : c.push_count-6.new.text.items ≡ c.args.text.now.items ++ a6 = next_count c.args.text.now.items c.push_count-5.new.text.items c.push_count-6.new.text.items a5 (codes "changed") c.kind-6.result (k 6) s5 c.in_ok-push_count-6.ensures c.kind-6.ensures in
    let a7 : List ℕ = a6 ++ count_line (codes "duplicates") (k 12) in
    let s7 : c.push_count-7.new.text.items ≡ c.args.text.now.items ++ a7 = next_count c.args.text.now.items c.push_count-6.new.text.items c.push_count-7.new.text.items a6 (codes "duplicates") c.kind-7.result (k 12) s6 c.in_ok-push_count-7.ensures c.kind-7.ensures in
    let a8 : List ℕ = a7 ++ count_line (codes "templates") (k 7) in
    let s8 : c.push_count-8.new.text.items ≡ c.args.text.now.items ++ a8 = next_count c.args.text.now.items c.push_count-7.new.text.items c.push_count-8.new.text.items a7 (codes "templates") c.kind-8.result (k 7) s7 c.in_ok-push_count-8.ensures c.kind-8.ensures in
    let a9 : List ℕ = a8 ++ count_line (codes "logged") (k 8) in
    let s9 : c.push_count-9.new.text.items ≡ c.args.text.now.items ++ a9 = next_count c.args.text.now.items c.push_count-8.new.text.items c.push_count-9.new.text.items a8 (codes "logged") c.kind-9.result (k 8) s8 c.in_ok-push_count-9.ensures c.kind-9.ensures in
    let a10 : List ℕ = a9 ++ count_line (codes "failed") (k 10) in
    let s10 : c.push_count-10.new.text.items ≡ c.args.text.now.items ++ a10 = next_count c.args.text.now.items c.push_count-9.new.text.items c.push_count-10.new.text.items a9 (codes "failed") c.kind-10.result (k 10) s9 c.in_ok-push_count-10.ensures c.kind-10.ensures in
    next_count c.args.text.now.items c.push_count-10.new.text.items c.push_count-11.new.text.items a10 (codes "nomemory") c.kind-11.result (k 11) s10 c.in_ok-push_count-11.ensures c.kind-11.ensures
