pub mod PeriodInterest
