-- The first word chooses the kind, and each further word is the next one.
use Rattle.std.proofs.Common.{◌≡◌, ◌%◌, ◌/◌, ℕ, ap, sym, ◌∙◌}
use Rattle.rand_xoshiro.specs.SplitMix64.{next_state}
use Rattle.rssd_script.specs.declared.lines.Line.TheVariants.{Write, Trim}
use Rattle.rssd_work.specs.Workload.{word, word_bytes, after_words}
use Rattle.rssd_work.proofs.Drawn.{trim_line, trim_on, idle_line, idle_on, write_line, write_on}
use Rattle.rssd_work.proofs.drawing.draw_line.Goals as goal

pub returns-then-kind-eq0-clause-line : goal.returns-then-kind-eq0-clause-line
returns-then-kind-eq0-clause-line c =
    let kind : word c.args.words.now % 16 ≡ 0 = ap (λ (w : ℕ). w % 16) (sym c.draw_word-kind.ensures.word) ∙ c.if-kind-eq0.true in
    let sector = c.draw_sector-trimmed.ensures.sector ∙ ap (λ (w : ℕ). word w % c.args.sectors) c.draw_word-kind.ensures.next in
    ap Trim sector ∙ sym (trim_line c.args.sectors c.args.sector_bytes c.args.words.now kind)

pub returns-then-kind-eq0-clause-next : goal.returns-then-kind-eq0-clause-next
returns-then-kind-eq0-clause-next c =
    let kind : word c.args.words.now % 16 ≡ 0 = ap (λ (w : ℕ). w % 16) (sym c.draw_word-kind.ensures.word) ∙ c.if-kind-eq0.true in
    c.draw_sector-trimmed.ensures.next ∙ ap next_state c.draw_word-kind.ensures.next ∙ sym (trim_on c.args.sectors c.args.sector_bytes c.args.words.now kind)

pub returns-then-kind-eq1-clause-line : goal.returns-then-kind-eq1-clause-line
returns-then-kind-eq1-clause-line c =
    let kind : word c.args.words.now % 16 ≡ 1 = ap (λ (w : ℕ). w % 16) (sym c.draw_word-kind.ensures.word) ∙ c.if-kind-eq1.true in
    sym (idle_line c.args.sectors c.args.sector_bytes c.args.words.now kind)

pub returns-then-kind-eq1-clause-next : goal.returns-then-kind-eq1-clause-next
returns-then-kind-eq1-clause-next c =
    let kind : word c.args.words.now % 16 ≡ 1 = ap (λ (w : ℕ). w % 16) (sym c.draw_word-kind.ensures.word) ∙ c.if-kind-eq1.true in
    c.draw_word-kind.ensures.next ∙ sym (idle_on c.args.sectors c.args.sector_bytes c.args.words.now kind)

pub returns-clause-line : goal.returns-clause-line
returns-clause-line c =
    let same : (w : ℕ) → word c.args.words.now % 16 ≡ w → c.draw_word-kind.result % 16 ≡ w = λ w h. ap (λ (x : ℕ). x % 16) c.draw_word-kind.ensures.word ∙ h in
    let sector = c.draw_sector-sector.ensures.sector ∙ ap (λ (w : ℕ). word w % c.args.sectors) c.draw_word-kind.ensures.next in
    let bytes = c.in_ok-bytes.ensures.bytes ∙ ap (word_bytes (c.args.sector_bytes / 8)) (c.draw_sector-sector.ensures.next ∙ ap next_state c.draw_word-kind.ensures.next) in
    (λ i. Write (sector i) (bytes i))
    ∙ sym (write_line c.args.sectors c.args.sector_bytes c.args.words.now (λ h. c.if-kind-eq0.false (same 0 h)) (λ h. c.if-kind-eq1.false (same 1 h)))

pub returns-clause-next : goal.returns-clause-next
returns-clause-next c =
    let same : (w : ℕ) → word c.args.words.now % 16 ≡ w → c.draw_word-kind.result % 16 ≡ w = λ w h. ap (λ (x : ℕ). x % 16) c.draw_word-kind.ensures.word ∙ h in
    c.in_ok-bytes.ensures.next ∙ ap (after_words (c.args.sector_bytes / 8)) (c.draw_sector-sector.ensures.next ∙ ap next_state c.draw_word-kind.ensures.next)
    ∙ sym (write_on c.args.sectors c.args.sector_bytes c.args.words.now (λ h. c.if-kind-eq0.false (same 0 h)) (λ h. c.if-kind-eq1.false (same 1 h)))
