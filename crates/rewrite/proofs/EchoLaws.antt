-- The echo of a request 06: a controller that echoes what it was sent gives back what the client wrote, and no tag is counted.
-- Assumes nothing.
use Prim.Native.Nat.{ℕ, ◌-◌, ◌≤◌, ◌<◌}
use mathlib.Core.Path.{◌≡◌, refl, ap, ◌∙◌}
use mathlib.Core.Logic.{⊎_elim}
use mathlib.Core.Bool.{true, false}
use mathlib.Core.List.{List, [], ◌∷◌, Memᴰ}
use Rattle.std.specs.Prelude.{Some}
use native.Mathlib.Omega.{arith}
use lib.ListN.{length, get_or}
use borrow.Author.Tests.{lt-ltb}
use Rattle.laws.specs.Bytes.{pair_at}
use Rattle.laws.specs.Digits.{below}
use Rattle.laws.proofs.Choice.{true_or}
use Rattle.bcd.specs.Bcd.{registers}
use Rattle.bcd.specs.Words.{words_of}
use Rattle.bcd.proofs.RoundTrip.{encode_accepts, encode_decode, encoded-below}
use Rattle.settings.specs.Grammar.{Tag}
use Rattle.settings.specs.TagWords.{kind_of, Ascending}
use Rattle.pdu.specs.Replies.{excepts}
use Rattle.pdu.specs.declared.What.{What}
use Rattle.pdu.specs.declared.Table.TheVariants.{Registers}
use Rattle.pdu.specs.declared.Asked.TheVariants.{SingleWrite}
use Rattle.rewrite.specs.declared.Way.{Way}
use Rattle.rewrite.specs.declared.Way.TheVariants.{ToBcd, ToBinary}
use Rattle.rewrite.specs.Registers.{registers_at, laid_at}
use Rattle.rewrite.specs.Rewriting.{turned, verdict, laid_by, Rewritten, with_counts, rewriting}
use Rattle.rewrite.specs.Rewriting.Verdict.{done}
use Rattle.rewrite.specs.Frames.{forwarded, reencoded, returned}
use Rattle.rewrite.proofs.RegisterLaws.{laid-registers, registers-laid, laid-laid}
use Rattle.rewrite.proofs.VerdictLaws.{done_exactly, turned-encoded, turned-decoded}
use Rattle.rewrite.proofs.TagLaws.{by-verdict}
use Rattle.rewrite.proofs.FrameLaws.{returned_single, returned-raw}
use Rattle.rewrite.proofs.ReencodedLaws.{own_one, whole_one, has_one, words_one, reencoded_exactly, sent_raw}
use Rattle.rewrite.proofs.SingleLaws.{alone}

module _ (tags : List Tag) (asc : Ascending 0 tags) (a : ℕ) (t : Tag) (m : Memᴰ t tags) (here : t.address ≡ a) (one : registers (kind_of t) ≡ 1) where
  -- a frame d whose one register, at byte 10, is the word x, which the tag there turns into y, has y in its place
  one_turned : (way : Way) (d : List ℕ) (x y : ℕ) → registers_at 10 1 d ≡ x ∷ [] → y < 65536 → turned way (kind_of t) x ≡ Some y → rewriting way 10 a 1 tags d ≡ with_counts 0 0 (laid_at 10 (y ∷ []) d)
  unfolding laid_by
  one_turned way d x y e l q =
      let k = kind_of t in
      let v : verdict way a (registers_at 10 1 d) t ≡ done (words_of k y) =
      rw e ((done_exactly way a (x ∷ []) t (words_of k y)).1 (whole_one a x t here one, (y, rw (own_one a x t here one) q, refl))) in
      let z : t.address - a ≡ 0 = omega arith in
      alone way 10 a d 0 tags t asc m (has_one a x t here one) ∙ by-verdict way 10 a 1 t d (done (words_of k y)) v ∙ rw (e, z, words_one a x t here one y l)

module _ (tags : List Tag) (asc : Ascending 0 tags) (f : List ℕ) (bytes : (k : ℕ) → get_or f k 0 < 256) (room : 12 ≤ length f) (a : ℕ) where
  -- the frame that is sent for the request 06 that wrote the value at byte 10 to the address a
  abbrev pub sent : List ℕ
  sent = (forwarded tags (SingleWrite Registers a (pair_at f 10)) f).bytes

  -- what a request that was re-encoded carries is decoded to the value
  decoded_back : reencoded tags a (pair_at f 10) ≡ true → rewriting ToBinary 10 a 1 tags sent ≡ with_counts 0 0 f
  unfolding forwarded registers_at below registers
  decoded_back e =
      let r = (reencoded_exactly tags a (pair_at f 10)).0 e in
      let k = kind_of r.0 in
      let v = pair_at f 10 in
      let s = encode_accepts k v r.4 in
      let small : s.0 < 65536 = let p = encoded-below k v s.0 s.1 in omega (arith, rw r.3 at p) in
      let fits : v < 65536 = omega (arith, bytes 10, bytes 11) in
      let out : sent ≡ laid_at 10 (s.0 ∷ []) f = ap (λ (x : Rewritten). x.bytes) (one_turned tags asc a r.0 r.1 r.2 r.3 ToBcd f v s.0 refl small (turned-encoded k v (Some s.0) s.1)) in
      let there : registers_at 10 1 (laid_at 10 (s.0 ∷ []) f) ≡ s.0 ∷ [] = registers-laid 10 (s.0 ∷ []) f (omega arith) (rw (lt-ltb s.0 65536 small) refl) in
      rw out
      (one_turned tags asc a r.0 r.1 r.2 r.3 ToBinary (laid_at 10 (s.0 ∷ []) f) s.0 v there fits (turned-decoded k s.0 (Some v) (encode_decode k v s.0 s.1))
      ∙ ap (with_counts 0 0) (laid-laid 10 (s.0 ∷ []) (v ∷ []) f refl ∙ laid-registers 10 1 f bytes))

  -- A controller that echoes what it was sent gives back the frame that the client wrote, and no tag is counted: whether the value was re-encoded or went out raw.
  pub echo_back : (w : What) → w.asked ≡ SingleWrite Registers a (pair_at f 10) → excepts w.function sent ≡ false → returned tags w sent ≡ with_counts 0 0 f
  echo_back w asks plain =
      ⊎_elim
      (λ (e : reencoded tags a (pair_at f 10) ≡ true). returned_single tags sent w a (pair_at f 10) asks e plain ∙ decoded_back e)
      (λ (e : reencoded tags a (pair_at f 10) ≡ false). returned-raw tags sent w a (pair_at f 10) asks e ∙ ap (with_counts 0 0) (sent_raw tags f bytes a e))
      (true_or (reencoded tags a (pair_at f 10)))
