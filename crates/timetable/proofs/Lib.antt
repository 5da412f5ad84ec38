pub mod Timetable
