-- Public vocabulary: a time as RFC 3339 writes it, in UTC.
use Rattle.std.specs.Prelude.{◌≡◌, ℕ, zero, suc, ◌+◌, ◌/◌, ◌%◌, ◌<◌, Bool, not, ◌==◌, ◌&&◌, ◌||◌, if◌then◌else◌, List, ◌++◌, codes, decimal}

-- ---- the calendar (RFC 3339, appendix C; ISO 8601)

abbrev pub is_leap : ℕ → Bool
is_leap year = year % 4 == 0 && (not (year % 100 == 0) || year % 400 == 0)

abbrev pub days_of_year : ℕ → ℕ
days_of_year year = if is_leap year then 366 else 365

-- the days of a month, of which the first is 1
abbrev pub days_of_month : ℕ → ℕ → ℕ
days_of_month year month =
    if month == 2 then (if is_leap year then 29 else 28) else (if month == 4 || month == 6 || month == 9 || month == 11 then 30 else 31)

-- the days of so many years from 1970 on
abbrev pub days_of_years : ℕ → ℕ
days_of_years zero = 0
days_of_years (suc n) = days_of_years n + days_of_year (1970 + n)

-- the days of the first so many months of a year
abbrev pub days_of_months : ℕ → ℕ → ℕ
days_of_months year zero = 0
days_of_months year (suc n) = days_of_months year n + days_of_month year (suc n)

-- So many days after the first of January 1970, so many years, months and days have gone by since then.
pub record HaveGone (all years months days : ℕ) : Type 0 where
  pub month : months < 12
  pub day : days < days_of_month (1970 + years) (suc months)
  pub count : all ≡ days_of_years years + (days_of_months (1970 + years) months + days)

-- ---- the text

-- a number below 100, in two digits
abbrev pub two_digits : ℕ → List ℕ
two_digits n = decimal (n / 10) ++ decimal (n % 10)

-- a number below 1,000,000, in six
abbrev pub six_digits : ℕ → List ℕ
six_digits n = two_digits (n / 10000) ++ (two_digits (n / 100 % 100) ++ two_digits (n % 100))

-- the first month and the first day have the number 1
abbrev pub date_text : ℕ → ℕ → ℕ → List ℕ
date_text years months days = decimal (1970 + years) ++ (codes "-" ++ (two_digits (months + 1) ++ (codes "-" ++ two_digits (days + 1))))

-- the time of the day, of so many seconds
abbrev pub clock_text : ℕ → List ℕ
clock_text seconds =
    two_digits (seconds / 3600) ++ (codes ":" ++ (two_digits (seconds / 60 % 60) ++ (codes ":" ++ two_digits (seconds % 60))))

-- the seconds of a day
abbrev pub day_seconds : ℕ
day_seconds = 86400

-- the date and the time of the day, this many seconds after the start of 1970
abbrev pub IsMoment : ℕ → List ℕ → Type 0
IsMoment seconds text =
    (years months days : ℕ) × HaveGone (seconds / day_seconds) years months days
    × (text ≡ date_text years months days ++ (codes "T" ++ clock_text (seconds % day_seconds)))

-- this many seconds after the start of 1970
abbrev pub IsSecond : ℕ → List ℕ → Type 0
IsSecond seconds text = (moment : List ℕ) × IsMoment seconds moment × (text ≡ moment ++ codes "Z")

-- this many nanoseconds after the start of 1970, in microseconds: what is below one isn't shown
abbrev pub IsTime : ℕ → List ℕ → Type 0
IsTime nanoseconds text =
    (moment : List ℕ) × IsMoment (nanoseconds / 1000000000) moment
    × (text ≡ moment ++ (codes "." ++ (six_digits (nanoseconds / 1000 % 1000000) ++ codes "Z")))
