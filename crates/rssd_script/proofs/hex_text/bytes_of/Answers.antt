-- The text is a dash, or has an even number of digits, at most 1,024.
use Rattle.std.proofs.Common.{◌≡◌, ◌∙◌, ◌<◌, ◌≤◌, length, sym, arith, true≢false, [], ◌∷◌}
use Rattle.std.proofs.lemmas.List.{take_at}
use Rattle.rssd_script.proofs.Texts.{hex_parts, hex_is}
use Rattle.rssd_script.proofs.hex_text.bytes_of.Goals as goal
use Rattle.rssd_script.proofs.hex_text.bytes_of.Goals.{then-is_empty-via-then-is_empty, then-is_empty-via-else-is_empty+then-text-gt1024}

pub returns-then-is_empty : goal.returns-then-is_empty
returns-then-is_empty c b short fits e =
    let n : c.args.text.now ≡ 45 ∷ [] → ⊥ = λ h. true≢false (sym (c.if-is_word.ensures.1 h)) in
    let p = hex_parts c.args.text.now b short e n in
    elim c.then-is_empty.branch [
      | then-is_empty-via-then-is_empty w ↦ grind (arith, p.0)
      | then-is_empty-via-else-is_empty+then-text-gt1024 w ↦ omega (arith, p.1)
    ]

pub returns-then-text-ne0 : goal.returns-then-text-ne0
returns-then-text-ne0 c b short fits e =
    let n : c.args.text.now ≡ 45 ∷ [] → ⊥ = λ h. true≢false (sym (c.if-is_word.ensures.1 h)) in
    let p = hex_parts c.args.text.now b short e n in
    c.if-text-ne0.true p.2

pub returns-then-not-read_hex : goal.returns-then-not-read_hex
returns-then-not-read_hex c b short fits e =
    let n : c.args.text.now ≡ 45 ∷ [] → ⊥ = λ h. true≢false (sym (c.if-is_word.ensures.1 h)) in
    let p = hex_parts c.args.text.now b short e n in
    c.if-not-read_hex.ensures b fits p.3

pub returns : goal.returns
returns c =
    let bytes = c.read_hex.new.bytes in
    let long : length bytes ≡ c.in_ok-bytes.bytes.len = omega (arith, c.read_hex.auto.bytes, c.as_mut_slice.ensures.len) in
    let is : c.from_vec-2.result ≡ bytes = c.from_vec-2.ensures ∙ take_at bytes _ _ long in
    let half = c.in_ok-bytes.ensures.len in
    let full : 0 < length c.args.text.now = grind arith in
    let some : 0 < length bytes = omega (arith, half, long, full) in
    let few : length bytes ≤ 512 = omega (arith, half, long) in
    rw is (few, c.if-not-read_hex.ensures.1, c.if-not-read_hex.ensures.0 ∙ hex_is bytes some)
