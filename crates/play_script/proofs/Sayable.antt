-- What services say in a drill has a spelling.
use Rattle.std.proofs.Common.{◌≡◌, ℕ, zero, suc, ◌+◌, ◌^◌, ◌<◌, ◌≤◌, List, [], ◌∷◌, ◌++◌, length, refl, true, arith, lit<, lit≤, None}
use Rattle.std.specs.Prelude.{IsTrue, codes, nat_lt}
use Rattle.std.specs.List.{list_all}
use Rattle.std.specs.Int.{byte_at, bytes_high_first, to_be_bytes, w16, w32}
use Rattle.std.proofs.lemmas.Bool.{and_parts, ltb-true}
use Rattle.okws_base.specs.Runs.{Each}
use Rattle.okws_base.specs.declared.value.Token.{Token}
use Rattle.okws_base.specs.declared.value.Value.TheVariants as value
use Rattle.frame_codec.specs.declared.frame.ServiceFrame.{ServiceFrame}
use Rattle.frame_codec.specs.declared.frame.ServiceFrame.TheVariants as frame
use Rattle.frame_codec.specs.Spelling.{size, service_parts, Bytewise, ServiceHasSpelling, is_lawful_length}
use Rattle.frame_codec.proofs.Sizes.{sizes}
use Rattle.frame_codec.proofs.Whole.{bounds_lawful}
use Rattle.monitor_model.specs.Script.{reply_end}
use Rattle.token_core.specs.Token.{place_of, token_bytes, token_of, word}
use Rattle.token_core.proofs.Shows.{token-length}
use Rattle.play_script.specs.Script.{asks, call_frame, id_value, open_frame, reply_frame, token_seed}
use Rattle.play_script.specs.declared.words.Act.{Act}
use Rattle.play_script.specs.declared.words.Act.TheVariants.{Publish, Relaunch, Select, Insert, Delete, OpenAsFirst, Get, Log}

lawful : (frame : ServiceFrame) (m : ℕ) → size (service_parts frame) ≡ m → 0 < m → m ≤ 1048576 → IsTrue (is_lawful_length (size (service_parts frame)))
lawful frame m e low high = bounds_lawful (size (service_parts frame)) (omega arith) (omega arith)

bytes_fit : (bytes : List ℕ) → list_all (λ (b : ℕ). nat_lt b 256) bytes ≡ true → Bytewise bytes
bytes_fit [] h k d lt = absurd (omega (arith, lt))
bytes_fit (b ∷ more) h zero d lt = ltb-true b 256 (and_parts (nat_lt b 256) (list_all (λ (x : ℕ). nat_lt x 256) more) h).0
bytes_fit (b ∷ more) h (suc k) d lt = bytes_fit more (and_parts (nat_lt b 256) (list_all (λ (x : ℕ). nat_lt x 256) more) h).1 k d (omega (arith, lt))

byte_low : (i n : ℕ) → byte_at i n < 256
byte_low zero n = omega arith
byte_low (suc i) n = omega arith

high_fit : (k n : ℕ) → Bytewise (bytes_high_first k n)
high_fit zero n j d lt = absurd (omega (arith, lt))
high_fit (suc k) n zero d lt = byte_low k n
high_fit (suc k) n (suc j) d lt = high_fit k n j d (omega (arith, lt))

fit_both : (xs ys : List ℕ) → Bytewise xs → Bytewise ys → Bytewise (xs ++ ys)
fit_both [] ys h k j d lt = k j d lt
fit_both (x ∷ xs) ys h k zero d lt = h zero d (omega arith)
fit_both (x ∷ xs) ys h k (suc j) d lt = fit_both xs ys (λ i e low. h (suc i) e (omega (arith, low))) k j d (omega (arith, lt))

token_fits : (seed : List ℕ) (s k p : ℕ) → Bytewise (token_of seed s k p).bytes
unfolding token_of token_bytes
token_fits seed s k p =
    fit_both (to_be_bytes w16 s ++ to_be_bytes w16 p ++ to_be_bytes w32 k ++ to_be_bytes w32 (word seed s (place_of k p)) ++ to_be_bytes w32 (word seed s (place_of k p + 1)))
    (to_be_bytes w32 (word seed s (place_of k p + 2)))
    (fit_both (to_be_bytes w16 s ++ to_be_bytes w16 p ++ to_be_bytes w32 k ++ to_be_bytes w32 (word seed s (place_of k p))) (to_be_bytes w32 (word seed s (place_of k p + 1)))
    (fit_both (to_be_bytes w16 s ++ to_be_bytes w16 p ++ to_be_bytes w32 k) (to_be_bytes w32 (word seed s (place_of k p)))
    (fit_both (to_be_bytes w16 s ++ to_be_bytes w16 p) (to_be_bytes w32 k) (fit_both (to_be_bytes w16 s) (to_be_bytes w16 p) (high_fit 2 s) (high_fit 2 p)) (high_fit 4 k))
    (high_fit 4 (word seed s (place_of k p))))
    (high_fit 4 (word seed s (place_of k p + 1))))
    (high_fit 4 (word seed s (place_of k p + 2)))

pub open_has : (shown : Token) → length shown.bytes ≡ 20 → Bytewise shown.bytes → ServiceHasSpelling (frame.Open 0 shown)
open_has shown len fits = ((lit< tt, (len, fits)), lawful (frame.Open 0 shown) 23 (simp sizes (omega (arith, len))) (lit< tt) (lit≤ tt))

pub select_has : ServiceHasSpelling (call_frame 1 [])
select_has = ((lit< tt, lit< tt, lit< tt, lit< tt, tt), lawful (call_frame 1 []) 10 (simp sizes) (lit< tt) (lit≤ tt))

pub insert_has : (n : ℕ) → n < 2 ^ 32 → ServiceHasSpelling (call_frame 2 (id_value n ∷ value.Text (codes "d") ∷ value.Text [] ∷ []))
unfolding lib.Utf8.encode
insert_has n low = (
  (lit< tt, lit< tt, lit< tt, lit< tt, (omega (arith, low), ((codes "d", (refl, refl)), (([], (refl, refl)), tt)))),
  lawful (call_frame 2 (id_value n ∷ value.Text (codes "d") ∷ value.Text [] ∷ [])) 30 (simp sizes) (lit< tt) (lit≤ tt),
)

pub delete_has : (n : ℕ) → n < 2 ^ 32 → ServiceHasSpelling (call_frame 3 (id_value n ∷ []))
delete_has n low = ((lit< tt, lit< tt, lit< tt, lit< tt, (omega (arith, low), tt)), lawful (call_frame 3 (id_value n ∷ [])) 19 (simp sizes) (lit< tt) (lit≤ tt))

pub get_has : ServiceHasSpelling (frame.Get (codes "page"))
get_has = ((lit< tt, bytes_fit (codes "page") refl), lawful (frame.Get (codes "page")) 6 refl (lit< tt) (lit≤ tt))

pub log_has : ServiceHasSpelling (frame.Log (codes "d"))
log_has = (bytes_fit (codes "d") refl, lawful (frame.Log (codes "d")) 6 (simp sizes) (lit< tt) (lit≤ tt))

pub reply_has : ServiceHasSpelling reply_frame
reply_has = ((refl, refl, refl, bytes_fit (codes "ok") refl), lawful reply_frame 21 (simp sizes) (lit< tt) (lit≤ tt))

-- What a service says before its Reply has a spelling, and is no Reply.
abbrev pub Sayable : ServiceFrame → Type 0
Sayable f = ServiceHasSpelling f × (reply_end f ≡ None)

open_sayable : (s k : ℕ) → Sayable (open_frame s k)
open_sayable s k = (open_has (token_of token_seed s k 0) (token-length token_seed s k 0) (token_fits token_seed s k 0), refl)

-- each frame before the Reply
pub asks_sayable : (act : Act) (s k n : ℕ) → n < 2 ^ 32 → Each Sayable (asks act s k n)
asks_sayable Publish s k n low = tt
asks_sayable Relaunch s k n low = tt
asks_sayable Select s k n low = (open_sayable s k, ((select_has, refl), tt))
asks_sayable Insert s k n low = (open_sayable s k, ((insert_has n low, refl), tt))
asks_sayable Delete s k n low = (open_sayable s k, ((delete_has n low, refl), tt))
asks_sayable OpenAsFirst s k n low = (open_sayable s 1, tt)
asks_sayable Get s k n low = ((get_has, refl), tt)
asks_sayable Log s k n low = ((log_has, refl), tt)

pub asks_few : (act : Act) (s k n : ℕ) → length (asks act s k n) ≤ 2
asks_few Publish s k n = omega arith
asks_few Relaunch s k n = omega arith
asks_few Select s k n = omega arith
asks_few Insert s k n = omega arith
asks_few Delete s k n = omega arith
asks_few OpenAsFirst s k n = omega arith
asks_few Get s k n = omega arith
asks_few Log s k n = omega arith
