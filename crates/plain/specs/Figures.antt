-- The figures of document 01, by part: times in microseconds, currents in picocoulombs a microsecond, the clock's limit.
use Rattle.std.specs.Prelude.{ℕ}
use Rattle.geometry.specs.declared.Part.{Part}

-- "A program takes 6 µs"
unfoldable pub program_time : Part → ℕ
program_time p = 6

-- "A block erase first has a 50 µs window"
unfoldable pub window_time : Part → ℕ
window_time p = 50

-- "listed blocks are erased in rising number, 700,000 µs each"
unfoldable pub erase_time : Part → ℕ
erase_time p = 700000

-- document 02, request 1: "B0H during a running block erase starts 20 µs in which the block makes no progress"
unfoldable pub recovery_time : Part → ℕ
recovery_time p = 20

-- "Chip erase has no window; .. 500,000 µs each"
unfoldable pub chip_time : Part → ℕ
chip_time p = 500000

-- "Running programs and erases draw 17,000 pC per µs"
unfoldable pub running_current : Part → ℕ
running_current p = 17000

-- "Every other µs, window and suspension included, draws 15 pC"
unfoldable pub standby_current : Part → ℕ
standby_current p = 15

-- "4 CLOCK: clock + d exceeds 100,000,000,000,000"
unfoldable pub clock_limit : Part → ℕ
clock_limit p = 100000000000000
