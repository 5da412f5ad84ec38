use mathlib.Core.Path.{sym, ap, ◌∙◌}
use Rattle.geometry.specs.Parts.{word_count}
use Rattle.idling.proofs.Idle.{not_sound, not-whole, not-whole-otp, goes_in}
use Rattle.idling.proofs.entry.Goals as goal

pub returns-then-not-is_sound : goal.returns-then-not-is_sound
returns-then-not-is_sound c =
    sym (not_sound _ _ c.requires _ _ (sym c.is_sound.ensures ∙ c.if-not-is_sound.true))

pub returns-then-cells-words : goal.returns-then-cells-words
returns-then-cells-words c =
    sym (not-whole _ _ c.requires _ _ (sym c.is_sound.ensures ∙ c.if-not-is_sound.false) (λ e. c.if-cells-words.true (e ∙ sym (c.words.ensures ∙ ap word_count c.part_named.ensures))))

pub returns-then-otp-ne-OTP_WORDS : goal.returns-then-otp-ne-OTP_WORDS
returns-then-otp-ne-OTP_WORDS c =
    sym (not-whole-otp _ _ c.requires _ _ (sym c.is_sound.ensures ∙ c.if-not-is_sound.false) (c.if-cells-words.false ∙ (c.words.ensures ∙ ap word_count c.part_named.ensures)) c.if-otp-ne-OTP_WORDS.true)

pub returns : goal.returns
returns c =
    sym (goes_in _ _ c.requires _ _ (sym c.is_sound.ensures ∙ c.if-not-is_sound.false) (c.if-cells-words.false ∙ (c.words.ensures ∙ ap word_count c.part_named.ensures)) c.if-otp-ne-OTP_WORDS.false)
