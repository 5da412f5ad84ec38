-- The public functions and those of the header ask nothing of a caller.
use Rattle.audit.specs.Asks.{AsksNothing}

pub asks_nothing : AsksNothing
asks_nothing = (
  (λ p r cells otp debris cells_mut otp_mut t a w n.
      record {
        fresh = tt;
        is-sound = tt;
        read = tt;
        write = tt;
        wait = tt;
        cut = tt;
        range-refusal = tt;
        range-array = tt;
        range = tt;
        exposed = tt;
        reads-cells = tt;
        until_end = tt;
        until-change = tt;
        debris-needed = tt;
      }),
  (λ part words stored cells otp debris words_mut cells_mut otp_mut t a w n.
      record {
        fresh = tt;
        carry = tt;
        read = tt;
        write = tt;
        wait = tt;
        cut = tt;
        range = tt;
        sound = tt;
        exposed-block = tt;
        exposed-word = tt;
        exposed-array = tt;
        reads-cells = tt;
        clock = tt;
        charge = tt;
        first_word = tt;
        block_words = tt;
        until_end = tt;
        until-change = tt;
        changing-block = tt;
        changing-word = tt;
        changing-array = tt;
        debris-needed = tt;
        block_of = tt;
        bank-of = tt;
        small-refusal = tt;
        small-block = tt;
        small-bank = tt;
        full-refusal = tt;
        full_block = tt;
        full-bank = tt;
      }),
)
