-- What the guestbook says has a spelling.
use Rattle.std.proofs.Common.{◌≡◌, ℕ, ◌+◌, ◌^◌, ◌<◌, ◌≤◌, List, length, arith, lit<, lit≤, ◌&&◌, nat_le}
use Rattle.std.specs.Prelude.{IsTrue, IsUtf8, FitsSigned}
use Rattle.std.specs.Int.{w64}
use Rattle.std.specs.List.{list_all}
use Rattle.std.proofs.lemmas.Bool.{and_parts, leb-true}
use Rattle.okws_base.specs.declared.value.Token.{Token}
use Rattle.frame_codec.specs.declared.frame.ServiceFrame.{ServiceFrame}
use Rattle.frame_codec.specs.declared.frame.ServiceFrame.TheVariants.{Log, Reply}
use Rattle.frame_codec.specs.Spelling.{size, service_parts, Bytewise, is_reply_status, is_content_type, is_location, is_printable, is_visible, is_trimmed, ServiceHasSpelling, is_lawful_length}
use Rattle.frame_codec.proofs.Sizes.{sizes}
use Rattle.frame_codec.proofs.Whole.{bounds_lawful}
use Rattle.guestbook.specs.declared.request.Entry.{Entry}
use Rattle.guestbook.specs.Frames.{open_frame, select_frame, insert_frame}

lawful : (frame : ServiceFrame) (m : ℕ) → size (service_parts frame) ≡ m → 0 < m → m ≤ 1048576 → IsTrue (is_lawful_length (size (service_parts frame)))
lawful frame m e low high = bounds_lawful (size (service_parts frame)) (omega arith) (omega arith)

pub open_has : (shown : Token) → length shown.bytes ≡ 20 → Bytewise shown.bytes → ServiceHasSpelling (open_frame shown)
open_has shown len fits = ((lit< tt, (len, fits)), lawful (open_frame shown) 23 (simp sizes (omega (arith, len))) (lit< tt) (lit≤ tt))

pub select_has : (session : ℕ) → session < 2 ^ 32 → ServiceHasSpelling (select_frame session)
select_has session low = ((lit< tt, low, lit< tt, lit< tt, tt), lawful (select_frame session) 10 (simp sizes) (lit< tt) (lit≤ tt))

pub insert_has : (session : ℕ) (entry : Entry) → session < 2 ^ 32 → FitsSigned w64 entry.id → IsUtf8 entry.who → IsUtf8 entry.note → length entry.who + length entry.note ≤ 1000000 → ServiceHasSpelling (insert_frame session entry)
insert_has session entry low id who note short = (
  (lit< tt, low, lit< tt, lit< tt, (id, (who, (note, tt)))),
  lawful (insert_frame session entry) (29 + (length entry.who + length entry.note)) (simp sizes (omega arith)) (omega arith) (omega arith),
)

pub log_has : (text : List ℕ) → Bytewise text → length text ≤ 1000 → ServiceHasSpelling (Log text)
log_has text fits short = (fits, lawful (Log text) (5 + length text) (simp sizes (omega arith)) (omega arith) (omega arith))

pub reply_has : (status : ℕ) (content_type location content : List ℕ) → IsTrue (is_reply_status status) → IsTrue (is_content_type content_type) → IsTrue (is_location location) → Bytewise content → length content ≤ 1000000
    → ServiceHasSpelling (Reply status content_type location content)
reply_has status content_type location content s t l fits short =
    let some = and_parts (nat_le 1 (length content_type)) (nat_le (length content_type) 255 && (list_all is_printable content_type && is_trimmed content_type)) t in
    let few = and_parts (nat_le (length content_type) 255) (list_all is_printable content_type && is_trimmed content_type) some.1 in
    let near = and_parts (nat_le (length location) 255) (list_all is_visible location) l in
    let wide : length content_type ≤ 255 = leb-true (length content_type) 255 few.0 in
    let far : length location ≤ 255 = leb-true (length location) 255 near.0 in (
      (s, t, l, fits),
      lawful (Reply status content_type location content) (9 + length content_type + length location + length content) (simp sizes (omega arith)) (omega arith) (omega arith),
    )
